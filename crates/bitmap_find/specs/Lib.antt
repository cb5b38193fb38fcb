pub mod Nearest
pub mod Runs
pub mod Rows
pub mod TopRows

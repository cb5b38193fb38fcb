pub mod Laws
pub mod Runs
pub mod Outward
pub mod Pick
pub mod Words
pub mod Rows
pub mod TopRows

pub mod Looked
pub mod Held

pub mod Content
pub mod File

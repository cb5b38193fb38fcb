pub mod Blank
pub mod Makes

pub mod Encoding
pub mod Mending
pub mod Reading
pub mod Turns
pub mod Ending
pub mod Example

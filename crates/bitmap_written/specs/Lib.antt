pub mod Changed
pub mod Written
pub mod Promises
pub mod Worked

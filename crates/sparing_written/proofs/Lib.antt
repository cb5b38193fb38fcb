pub mod Written
pub mod Resorted

pub mod Walk
pub mod Kinds
pub mod Written
pub mod Told
pub mod Numbers

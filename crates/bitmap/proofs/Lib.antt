pub mod Digits
pub mod Windows
pub mod Ones
pub mod Laws

pub mod Laws
pub mod Looks
pub mod Held

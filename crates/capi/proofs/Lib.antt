pub mod Laws
pub mod Running
pub mod Eighteen

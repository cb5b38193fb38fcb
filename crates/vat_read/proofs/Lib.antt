pub mod Places
pub mod Bytes
pub mod Table
pub mod Laws

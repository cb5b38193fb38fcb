pub mod Walk
pub mod Tables
pub mod Reading
pub mod Places
pub mod Written
pub mod Laws

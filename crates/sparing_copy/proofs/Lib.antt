pub mod Places
pub mod Words
pub mod Entries
pub mod Rule
pub mod Slots
pub mod Laws

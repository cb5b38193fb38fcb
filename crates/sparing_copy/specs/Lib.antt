pub mod Entries
pub mod Layout
pub mod Slots

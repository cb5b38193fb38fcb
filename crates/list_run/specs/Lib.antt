pub mod Encoded
pub mod Listed
pub mod Outcome
pub mod Promise

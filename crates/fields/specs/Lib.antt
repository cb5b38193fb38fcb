pub mod Back
pub mod Bytes
pub mod Number
pub mod Regid

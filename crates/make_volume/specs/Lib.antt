pub mod WriteOnce
pub mod Rewritable

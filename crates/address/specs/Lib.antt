pub mod Translation
pub mod Told

pub mod Extents
pub mod Form

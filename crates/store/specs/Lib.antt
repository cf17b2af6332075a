pub mod Extents
pub mod Kinds
pub mod Meaning
pub mod Refusals

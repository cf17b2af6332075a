pub mod Gathered
pub mod Table
pub mod Told

pub mod Copies
pub mod Growing
pub mod Lasting
pub mod Links
pub mod Openings
pub mod Shrinking

pub mod Adding
pub mod Mini
pub mod Steps

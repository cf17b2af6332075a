pub mod Answers
pub mod Faults
pub mod Scripts
pub mod Tables

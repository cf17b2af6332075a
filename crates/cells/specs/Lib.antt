pub mod Meant
pub mod Noted
pub mod Stored

pub mod Units
pub mod Webs

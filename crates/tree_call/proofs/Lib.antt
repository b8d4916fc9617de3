pub mod Refused
pub mod Saved
pub mod Written

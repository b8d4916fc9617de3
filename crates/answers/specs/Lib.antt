pub mod Told
pub mod All

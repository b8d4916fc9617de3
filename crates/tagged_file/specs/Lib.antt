pub mod Load
pub mod Write
pub mod Inner
pub mod All
pub mod Promises

pub mod Preview
pub mod Telling
pub mod All
pub mod Promises

pub mod Compare
pub mod Telling
pub mod All
pub mod Promises

pub mod Many
pub mod Making
pub mod All
pub mod Promises

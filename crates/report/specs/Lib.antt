pub mod Report
pub mod Inner
pub mod All
pub mod Promises

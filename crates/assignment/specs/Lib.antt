pub mod Assignment
pub mod Inner
pub mod Worked
pub mod All
pub mod Promises

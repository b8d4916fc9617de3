pub mod Meeting
pub mod Valued
pub mod Accepted
pub mod Filling
pub mod Whole
pub mod Worked
pub mod Promises

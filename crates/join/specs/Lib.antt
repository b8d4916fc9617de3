pub mod Join
pub mod Filling
pub mod Worked
pub mod All
pub mod Promises

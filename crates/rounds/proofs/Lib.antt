pub mod Calls
pub mod Steps
pub mod Rounds
pub mod Turns
pub mod Rest
pub mod Free
pub mod Worked
pub mod Promises

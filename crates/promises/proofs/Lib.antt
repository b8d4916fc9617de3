pub mod Calls
pub mod Lists
pub mod Worked
pub mod Found
pub mod Stages
pub mod Promises

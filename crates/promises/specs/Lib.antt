pub mod Demand
pub mod Worked
pub mod Found
pub mod Stages
pub mod All
pub mod Promises

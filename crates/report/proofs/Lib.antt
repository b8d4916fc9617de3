pub mod Put
pub mod Room
pub mod LineLaws
pub mod Outcomes
pub mod Within
pub mod Settles
pub mod Worked
pub mod Promises

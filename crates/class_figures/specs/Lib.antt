pub mod Figures
pub mod Call
pub mod Inner
pub mod All
pub mod Promises

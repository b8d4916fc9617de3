pub mod Round
pub mod Settle
pub mod Inner
pub mod All
pub mod Promises

pub mod Order
pub mod Sheets
pub mod Settled
pub mod Worked
pub mod Inner
pub mod All
pub mod Promises

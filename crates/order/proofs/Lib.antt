pub mod Telling
pub mod Combining
pub mod Order
pub mod Sheets
pub mod Short
pub mod Settled
pub mod Worked
pub mod Promises

pub mod Numbers
pub mod Walked
pub mod Tested
pub mod Heads
pub mod Filled
pub mod Whole

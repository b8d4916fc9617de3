pub mod Placed
pub mod Parts
pub mod Stored
pub mod Widths
pub mod Summed
pub mod Named
pub mod Answered

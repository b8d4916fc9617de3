pub mod Stepping
pub mod Repeating
pub mod Answering

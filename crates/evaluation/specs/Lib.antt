pub mod Word
pub mod Inner
pub mod Evaluation
pub mod All
pub mod Promises

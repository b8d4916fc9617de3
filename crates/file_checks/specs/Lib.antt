pub mod File
pub mod Walk
pub mod All

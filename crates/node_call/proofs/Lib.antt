pub mod Refusing
pub mod Turning
pub mod Outcomes

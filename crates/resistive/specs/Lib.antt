pub mod Resistive
pub mod Family
pub mod Worked
pub mod All
pub mod Promises

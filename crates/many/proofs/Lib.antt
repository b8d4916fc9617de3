pub mod Rising
pub mod Refusing
pub mod Sweeping
pub mod EveryOrder
pub mod Promises

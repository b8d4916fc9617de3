pub mod Settle
pub mod Phase

pub mod Filling
pub mod Linking
pub mod Costing
pub mod Deciding
pub mod Stepping

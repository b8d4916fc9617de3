pub mod Replay
pub mod Inner
pub mod Kind
pub mod All

pub mod Families
pub mod Words
pub mod KeyPass
pub mod ChoicePass
pub mod Reading
pub mod Calling
pub mod Turning

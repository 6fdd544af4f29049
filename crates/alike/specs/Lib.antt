pub mod Untold
pub mod Slots

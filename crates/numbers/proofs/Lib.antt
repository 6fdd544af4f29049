pub mod Stores
pub mod Marks

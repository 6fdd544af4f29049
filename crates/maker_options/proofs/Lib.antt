pub mod Options
pub mod Turns
pub mod Entries

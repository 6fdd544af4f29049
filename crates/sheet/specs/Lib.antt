pub mod Told
pub mod Good
pub mod Readers
pub mod Once

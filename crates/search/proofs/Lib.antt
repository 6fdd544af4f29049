pub mod Lettered
pub mod Tellings

pub mod Solved
pub mod Demanded
pub mod Moved

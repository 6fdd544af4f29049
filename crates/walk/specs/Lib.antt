pub mod Counts
pub mod Progress
pub mod Posts

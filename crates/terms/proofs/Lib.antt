pub mod Showing
pub mod Joining
pub mod Adding
pub mod Meeting

pub mod Moved
pub mod Alike
pub mod Back
pub mod Same
pub mod Answers
pub mod Coincide

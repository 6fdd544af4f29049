pub mod Coincide
pub mod Solving
pub mod Short
pub mod Walking

pub mod Kinds
pub mod Read
pub mod Ranges

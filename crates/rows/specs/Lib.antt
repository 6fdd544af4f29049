pub mod Sets
pub mod Passes

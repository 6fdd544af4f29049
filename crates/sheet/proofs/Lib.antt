pub mod Good
pub mod Contents
pub mod Records
pub mod Rows
pub mod Soundness
pub mod Coincide
pub mod Telling

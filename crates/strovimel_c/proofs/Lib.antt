pub mod Fits
pub mod Coincide
pub mod Promised

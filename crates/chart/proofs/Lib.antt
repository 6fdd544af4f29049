pub mod Pairing
pub mod Owning
pub mod Filling
pub mod Rows
pub mod Charting

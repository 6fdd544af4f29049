pub mod Spans
pub mod Words
pub mod Bits
pub mod Room
pub mod Places
pub mod Scan
pub mod Where

pub mod Readable
pub mod Marks

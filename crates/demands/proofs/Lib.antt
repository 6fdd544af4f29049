pub mod Answering
pub mod Counting
pub mod Handed
pub mod Demands
pub mod Promised
pub mod Moving

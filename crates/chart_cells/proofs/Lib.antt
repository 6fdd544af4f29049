pub mod Adding
pub mod Splitting
pub mod Carrying
pub mod Grounding

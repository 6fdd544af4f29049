pub mod Letters
pub mod Moves

pub mod Each
pub mod ListLaws
pub mod Formed
pub mod Coincide

pub mod Puts
pub mod Movable

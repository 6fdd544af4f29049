pub mod Laying
pub mod Ground

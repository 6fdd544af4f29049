pub mod ByKind
pub mod Splitting
pub mod Laying

pub mod Holding
pub mod Stages

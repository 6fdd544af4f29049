pub mod Claiming
pub mod Holding
pub mod Judging

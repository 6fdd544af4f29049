pub mod Giving
pub mod Prepared
pub mod Planned

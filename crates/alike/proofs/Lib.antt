pub mod Exchange
pub mod Untold
pub mod Holding
pub mod Comparing
pub mod Giving
pub mod Accepted

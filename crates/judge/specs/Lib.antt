pub mod Judged
pub mod Charts

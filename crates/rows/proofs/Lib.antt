pub mod Zeros
pub mod Passes
pub mod ByKind
pub mod NullLaws
pub mod ReachLaws

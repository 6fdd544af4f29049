pub mod FirstBad
pub mod Placed
pub mod Tables

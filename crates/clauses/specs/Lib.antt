pub mod Darts
pub mod Inner

pub mod Rings
pub mod Load
pub mod Inner

pub mod Rings
pub mod Inner
pub mod Write

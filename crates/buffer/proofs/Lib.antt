pub mod Writing
pub mod Fronts
pub mod Parts

pub mod Sinks
pub mod Fronts

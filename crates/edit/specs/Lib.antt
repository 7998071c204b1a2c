pub mod Lines
pub mod Reaching
pub mod Changes
pub mod Calls
pub mod Inner

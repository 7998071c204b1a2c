pub mod Darts
pub mod Fresh
pub mod Sound
pub mod Levels
pub mod Check
pub mod Inner

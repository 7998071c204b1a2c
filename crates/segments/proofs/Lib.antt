pub mod Widening
pub mod Frames

pub mod Closing
pub mod Corners
pub mod Answers

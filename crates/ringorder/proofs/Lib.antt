pub mod Marks
pub mod Law

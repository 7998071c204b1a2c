pub mod Taken
pub mod Reading

pub mod Bytes
pub mod Written
pub mod Reading
pub mod Shapes
pub mod Keys

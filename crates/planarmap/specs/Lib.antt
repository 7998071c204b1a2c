pub mod Map
pub mod Corners
pub mod Order
pub mod Columns
pub mod Contact
pub mod Rotation

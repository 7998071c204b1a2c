pub mod Draw
pub mod Write
pub mod Points
pub mod Laid
pub mod Clear

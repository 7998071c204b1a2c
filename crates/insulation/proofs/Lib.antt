pub mod Beside
pub mod Apart
pub mod Points
pub mod Example

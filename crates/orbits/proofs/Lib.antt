pub mod Turns
pub mod Walks
pub mod Numbering
pub mod Distinct
pub mod Examples

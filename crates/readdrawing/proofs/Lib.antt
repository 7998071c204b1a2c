pub mod Lines
pub mod Turns
pub mod Plain
pub mod Entries
pub mod Exactly

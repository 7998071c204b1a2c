pub mod Edits
pub mod Sheets
pub mod Masks

pub mod Darts
pub mod Edits
pub mod Renumber
pub mod Statements

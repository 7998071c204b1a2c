pub mod Filling
pub mod Best
pub mod Widening
pub mod Ends
pub mod Columns
pub mod Segments
pub mod Outcome
pub mod Laying

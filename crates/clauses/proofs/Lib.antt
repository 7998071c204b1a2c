pub mod Below
pub mod Tables
pub mod Marks
pub mod Touching

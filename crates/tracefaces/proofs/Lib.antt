pub mod Tables
pub mod Answered

pub mod Texts
pub mod Answered

pub mod Answered
pub mod Own
pub mod Laws
pub mod Outcomes

pub mod Answered
pub mod Call
pub mod Laws

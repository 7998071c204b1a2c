pub mod Calls
pub mod Answered
pub mod Demand

pub mod Refusals
pub mod Once
pub mod Demand

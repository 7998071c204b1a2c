pub mod Rings
pub mod Walking
pub mod Poles
pub mod Outcome

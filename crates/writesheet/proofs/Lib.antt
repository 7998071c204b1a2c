pub mod Firsts
pub mod Measure
pub mod Entries
pub mod Putting
pub mod Outcomes

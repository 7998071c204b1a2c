pub mod Refusals
pub mod Clauses

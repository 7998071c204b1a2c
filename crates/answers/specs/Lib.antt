pub mod Answers
pub mod Refusals
pub mod Clauses

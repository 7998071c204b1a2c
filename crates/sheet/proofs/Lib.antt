pub mod Darts
pub mod Rings
pub mod Clauses
pub mod Found

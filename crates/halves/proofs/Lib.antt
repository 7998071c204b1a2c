pub mod Literal
pub mod Exact
pub mod Order
pub mod Fractions

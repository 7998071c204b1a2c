pub mod Standing
pub mod Decimals
pub mod Back
pub mod Only
pub mod Shapes
pub mod Mixed
pub mod Laws

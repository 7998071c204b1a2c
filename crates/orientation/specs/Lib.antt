pub mod Links
pub mod Ears
pub mod Laws
pub mod Inner

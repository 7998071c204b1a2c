pub mod Encoded
pub mod Replayed
pub mod Inner
pub mod Laws

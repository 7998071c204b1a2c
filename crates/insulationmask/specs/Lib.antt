pub mod Laid
pub mod Mask
pub mod Insulated
pub mod Laws
pub mod Inner

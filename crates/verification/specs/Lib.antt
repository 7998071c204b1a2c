pub mod Verify
pub mod Laws

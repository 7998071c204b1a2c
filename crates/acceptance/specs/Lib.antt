pub mod Loading
pub mod Laws

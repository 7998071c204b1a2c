pub mod Framed
pub mod Segments
pub mod Laws

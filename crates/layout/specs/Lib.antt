pub mod Layout
pub mod Mixed

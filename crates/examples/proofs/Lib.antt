pub mod Described
pub mod Lists
pub mod Table
pub mod Torus

pub mod Described
pub mod Plates
pub mod Printed
pub mod Torus

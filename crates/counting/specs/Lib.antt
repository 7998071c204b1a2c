pub mod Counts
pub mod Below
pub mod Choice
pub mod Paths
pub mod Orbits

pub mod Occurrences
pub mod Ends
pub mod Walking
pub mod Directing
pub mod Turns

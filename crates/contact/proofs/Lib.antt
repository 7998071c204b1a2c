pub mod Facts
pub mod Numbers
pub mod Clear
pub mod Entries
pub mod Covering
pub mod Linking
pub mod Sweeping
pub mod Meaning

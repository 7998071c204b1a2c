pub mod Tests
pub mod Laws
pub mod Columns
pub mod Lists
pub mod Free
pub mod Sweep

pub mod Tests
pub mod Relaxation
pub mod Chaining
pub mod Waits
pub mod Passing
pub mod Settling
pub mod Examples

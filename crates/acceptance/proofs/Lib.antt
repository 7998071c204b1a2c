pub mod Said
pub mod Answered
pub mod Described
pub mod Turning
pub mod Once
pub mod Turned
pub mod Accepted
pub mod Begins

pub mod Edits
pub mod Bound
pub mod Put
pub mod Turns
pub mod Cases
pub mod Room
pub mod Forms

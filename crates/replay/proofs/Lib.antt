pub mod Encodings
pub mod Parts
pub mod OtherKind
pub mod Turns

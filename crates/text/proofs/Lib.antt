pub mod DigitLaws
pub mod Keys
pub mod LineEnds
pub mod Listing
pub mod Closing
pub mod Counted
pub mod Pairs

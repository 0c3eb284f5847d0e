pub mod Digits
pub mod Finds
pub mod Locations
pub mod Matchable
pub mod Moments
pub mod Parted
pub mod Rings
pub mod Waits

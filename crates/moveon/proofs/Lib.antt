pub mod Accepted
pub mod Locations
pub mod Spelled

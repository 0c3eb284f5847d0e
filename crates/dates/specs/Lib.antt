pub mod Dates
pub mod Numbering
pub mod Of

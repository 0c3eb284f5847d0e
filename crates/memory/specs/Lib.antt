pub mod Refusals
pub mod Storage
pub mod Words

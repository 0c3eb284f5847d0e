pub mod Arguments
pub mod Stores

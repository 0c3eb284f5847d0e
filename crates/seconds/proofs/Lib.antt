pub mod Corrected
pub mod Starts
pub mod Places
pub mod Accounts
pub mod Reaches

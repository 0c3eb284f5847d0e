pub mod Fields
pub mod Digits
pub mod Reading
pub mod Written
pub mod Answers
pub mod Names

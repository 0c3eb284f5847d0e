pub mod Days
pub mod Lengths
pub mod Recurs
pub mod Sweeps

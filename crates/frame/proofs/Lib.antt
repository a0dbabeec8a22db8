pub mod Codes
pub mod Runs
pub mod Sums

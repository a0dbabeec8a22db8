pub mod Words
pub mod Inputs
pub mod Enrolled

pub mod Moments
pub mod Century
pub mod Octets
pub mod Halves
pub mod Promises

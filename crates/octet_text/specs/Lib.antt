pub mod Digits
pub mod Positions
pub mod Reading
pub mod Lines
pub mod Texts
pub mod Promises

pub mod Shares
pub mod Refusals
pub mod Lines
pub mod Enrolling
pub mod Receiving
pub mod Calling
pub mod Reading

pub mod Handing
pub mod Faults
pub mod Digits
pub mod Checksum
pub mod Reception
pub mod Requests
pub mod Answers
pub mod Frames

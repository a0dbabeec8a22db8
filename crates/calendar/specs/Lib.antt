pub mod Calendar
pub mod Moment
pub mod Carry
pub mod Elapsed
pub mod Running
pub mod HalfHours
pub mod Digits

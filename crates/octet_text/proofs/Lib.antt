pub mod Steps
pub mod Grammar
pub mod Faults
pub mod Promises

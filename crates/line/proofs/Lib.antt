pub mod Parts
pub mod Places
pub mod Tables
pub mod Serving
pub mod Reading

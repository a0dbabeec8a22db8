pub mod Grids
pub mod ByPage
pub mod ByCell
pub mod Steps
pub mod Joins

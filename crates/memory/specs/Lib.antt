pub mod Model
pub mod Grid
pub mod Working
pub mod Chip
pub mod Joined
pub mod Paging

pub mod Ranking
pub mod Slotting
pub mod Leaving
pub mod Lawful
pub mod FieldSteps
pub mod PartSteps
pub mod MergeSteps
pub mod ShowSteps

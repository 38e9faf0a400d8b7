pub mod Branches
pub mod Outcomes

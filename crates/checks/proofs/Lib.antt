pub mod EdgeChecks
pub mod Walks

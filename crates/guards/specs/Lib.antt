pub mod Atoms
pub mod Groups

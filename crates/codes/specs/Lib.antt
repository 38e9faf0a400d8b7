pub mod Powers
pub mod Codes
pub mod Claims

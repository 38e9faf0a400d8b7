pub mod Putting
pub mod Records
pub mod Lengths
pub mod Written
pub mod Whole

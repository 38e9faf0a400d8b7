pub mod Ranging
pub mod Rows
pub mod Loops
pub mod Reciprocal
pub mod Saying
pub mod Shape

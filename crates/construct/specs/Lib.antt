pub mod Leaving
pub mod Marks
pub mod Rows
pub mod Cells
pub mod Builds
pub mod Props

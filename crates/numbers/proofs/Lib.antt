pub mod Answers
pub mod Masks
pub mod Parts
pub mod Laid
pub mod Zeros

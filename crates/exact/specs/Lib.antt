pub mod Chunks
pub mod Banks
pub mod Ready
pub mod Runs

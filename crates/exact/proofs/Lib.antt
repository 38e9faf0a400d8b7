pub mod Chunks
pub mod Banks
pub mod Spreading
pub mod Moving
pub mod Starting
pub mod Running
pub mod Outcome

pub mod Counts
pub mod Laws
pub mod Unused
pub mod Checked

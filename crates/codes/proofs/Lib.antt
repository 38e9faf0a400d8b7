pub mod PowerLaws
pub mod Codes
pub mod Loops
pub mod Agreement
pub mod Examples

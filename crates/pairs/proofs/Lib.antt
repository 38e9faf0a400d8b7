pub mod Bases
pub mod Agreement

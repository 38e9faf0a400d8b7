pub mod Bitwise
pub mod Sets
pub mod Laying
pub mod Rows
pub mod Loops
pub mod Examples

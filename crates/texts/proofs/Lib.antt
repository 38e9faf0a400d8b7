pub mod Marks
pub mod GroupRules
pub mod Found
pub mod Outermost

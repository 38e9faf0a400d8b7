-- What the contracts of this crate speak of.
-- The tree of a table's list, and what is counted of it
pub mod Tree
-- The lengths of a list
pub mod Lengths
-- A batch of tables: where parts begin, what the checks let pass, the greatest share off the lines
pub mod Batches
-- The outcome as the record that crosses the call
pub mod Outcome

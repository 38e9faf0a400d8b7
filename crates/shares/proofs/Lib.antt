-- What is proved of the definitions and the laws that the functions' proofs cite.
-- The tree of words: what is read of a table, its words counted node by node, the counts on the way, the words one
-- event below a node, the whole tree
pub mod TreeCells
pub mod TreeLaws
pub mod TreeCounts
pub mod TreeLeaves
pub mod TreeWhole
-- Products of numbers of 32 bits; a share's four places
pub mod TermLaws
-- Numbers cut just above 1,000,000, and the sum of a list
pub mod CutNumbers
-- The lengths of a list, stamp by stamp
pub mod LengthLaws
-- A table in shape as the walk takes it, and the parts of a batch
pub mod ShapeLaws
pub mod BatchLaws
-- A table's line, and the greatest share read off the lines
pub mod LineLaws
pub mod LaidLines
pub mod Pools
pub mod GreatestLaws
-- The answer of the entry
pub mod SharesLaws

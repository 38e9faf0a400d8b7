-- Joint states as numbers and as a graph
pub mod JointLaws
pub mod Graphs
pub mod Views
-- The scratch as two tables; a state noted, waiting followed, a state reached, its events taken, the whole search
pub mod Parts
pub mod Scanning
pub mod Extending
pub mod Reaching
pub mod Expanding
pub mod Searching
-- Levels and what they count; the search down the queue; pauses summed up; the way back
pub mod Levels
pub mod Sources
pub mod Sums
pub mod Back
-- Rooms that were cleared
pub mod Zeros
-- What a search over joint states has to show; a number's steps and its states'; the word of a way, and the way to a
-- state; what the search found
pub mod SearchLaws
pub mod Steps
pub mod Words
pub mod Ways
pub mod Findings
-- The refusals, the three ends, and the whole
pub mod Refusing
pub mod Ending
pub mod Checking

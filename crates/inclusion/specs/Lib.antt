-- A joint state as one number, and the graph of joint states
pub mod Numbers
pub mod Graphs
-- Two tables as a search takes them
pub mod Views
-- The scratch as two tables, and what a search keeps in it
pub mod Parts
pub mod Scans
-- The way back from a goal
pub mod Trails
-- What 25, 35 and 36 leave, and how a search ends
pub mod Judging

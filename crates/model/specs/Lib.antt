-- What a reader must believe, in the order of document 01. What is proved of it stands in proofs/.
-- Choices, lists of numbers, masks; refusals and the order among them
pub mod Basics
-- What an edge's text spells: atoms, and groups of atoms with their rules (2.9)
pub mod Texts
-- "The rule": locations, clocks, edges, cm and N; what pins a reset (2.4); which rules a file may spell
pub mod Rules
-- "The rule": words, and what a word may not be (30 to 33)
pub mod Words
-- Words alike, and half seconds (2.6)
pub mod Alike
-- "The rule": guards, all-of and any-of (2.9), and the first member that does not hold (2.1)
pub mod Guards
-- "The rule": ages, runs, acceptance; "Runners": the least accepting run, what held the rule back (2.1), configurations
-- and 26
pub mod Runs
-- "The file": records, reading with refusals 1 to 8, writing; a file less its ceiling (2.2)
pub mod Files
-- "The file": the head record and the edge table that a rule becomes (20, 21)
pub mod Layout
-- "The construction": intervals, regions, pairs, rows by discovery, cells; the walk over rows
pub mod Construction
-- "The construction": the three lent tables; the room that they need (22 to 24)
pub mod Tables
-- "Runners": tables in shape (25), the step of the one timer, the follower (34)
pub mod Walks
-- All words up to a size, in order; the word after another (2.6: 38, 39)
pub mod Lists
-- Does one rule allow only what another allows (2.10: 35 to 37)
pub mod Inclusion
-- Two tables walked together at D = 2: what the search of 2.10 goes over
pub mod JointStates
-- How much of the list a rule allows; a batch of tables, the greatest share (2.7: 40, 43)
pub mod Shares
-- Refusals as the code hands them on, and the records that cross a call by their outcome
pub mod Faults
-- What every public entry promises: its answer and every lent buffer at exit
pub mod Promises
-- Demands 2 and 3 as claims about the definitions and the promises
pub mod Demands
-- Further claims that pin the definitions: runs, configurations, successor sets, the tables by place, the follower,
-- guards, what held a rule back, what pins a guard, the list of words, inclusion, shares
pub mod Claims

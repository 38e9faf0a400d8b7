-- What is proved of the definitions, in the order in which it is built.
-- Plain laws: tests, membership, refusals in order, masks
pub mod Logic
pub mod Flags
pub mod Refusals
-- Refusals as the code hands them on
pub mod Faults
pub mod Answers
pub mod Masks
pub mod Rising
pub mod MaskLists
pub mod MaskSets
-- A valid rule and a word that keeps the rules, as plain facts; the edge table by place, and read back
pub mod Valid
pub mod ValidParts
pub mod TopMost
pub mod Words
pub mod Events
pub mod EdgeTable
pub mod EdgesWritten
-- Ages as lists; the checks that come before a run
pub mod Ages
pub mod Inputs
-- By computation from the definitions: P1 to P9 and two whole tables; every refusal on both sides of its range; whole
-- calls with all that they leave; runs, and the least of them
pub mod Examples
pub mod Cases
pub mod RefusedFiles
pub mod RefusedRooms
pub mod RefusedShapes
pub mod Moves
pub mod WholeReads
pub mod WholeBuilds
pub mod WholeRuns
pub mod WholeDecisions
pub mod RunCases
-- One outcome for one call, for every promise; which numbers each check can give; what each call leaves, by its number
pub mod Outcomes
pub mod Numbers
pub mod Kept
pub mod KeptRuns
-- Runs: a word is accepted exactly if some run is accepting; the least run
pub mod Runs
pub mod LeastRun
-- With all configurations kept, accepted is to end in a final location; they are those that some run reaches (26)
pub mod Configs
pub mod Reaching
pub mod Counted
-- Texts of groups and their trees (2.9), computed; guards, member by member; what held a rule back (2.1); what pins a
-- guard (2.4)
pub mod Texts
pub mod Spelt
pub mod Grouped
pub mod Levels
pub mod Guards
pub mod HeldBack
pub mod Pins
-- Rows: bases track ages, codes give their pairs back, the successor row is the paper's set
pub mod Regions
pub mod Clocks
pub mod Codes
pub mod RowSets
pub mod Successors
-- The walk of the one timer over the rows accepts what the runs accept
pub mod Agreement
-- Rows: ascending, numbered by discovery, closed under successors
pub mod RowsKeep
pub mod RowNumbers
pub mod Discovery
-- The tables: room, places, row 0, walk, shape, what a row stores, the walk over any table in shape; the
-- follower against the runs
pub mod CodeBounds
pub mod TableRoom
pub mod TablePlaces
pub mod StartRow
pub mod TableWalk
pub mod Shape
pub mod Stored
pub mod ShapeCells
pub mod ShapeWalk
pub mod FollowerWalk
-- Rule files: numbers as bytes; one record read; the writing of a valid rule is accepted and spells it; an accepted
-- file spells a valid rule and has the bytes of its writing
pub mod Bytes
pub mod FileSteps
pub mod FileOutcomes
pub mod FileRecords
pub mod FileChecks
pub mod FileRead
pub mod FileWrites
pub mod FileSoFar
pub mod FileLess
pub mod FileSpelt
pub mod FileBytes
pub mod FileLengths
-- What reading leaves passes 20 and 21, and only that; read then write
pub mod Readable
pub mod ReadWrite
-- Demand 3: the three calls in a row, over their promises; and they meet the promise of `decide`
pub mod Calls
pub mod ThreeCalls
pub mod Decision
-- The runners agree
pub mod Runners
-- The list of words: half seconds; each word once, how many; words alike; the word after another; in order, and no
-- other list; what is taken and refused; short lists and whole answers by computation
pub mod Seconds
pub mod Lists
pub mod Alike
pub mod NextWord
pub mod ListOrder
pub mod ListOnly
pub mod ListTaken
pub mod ListExamples
-- Inclusion: words alike over one table; two tables walked together, and D = 2 is enough; the rules of tables as built,
-- one call and two outcomes of it; from the bytes of two files; refusals and whole answers by computation
pub mod AlikeTables
pub mod JointWalk
pub mod Inclusions
pub mod TwoFiles
pub mod InclusionExamples
-- Shares of the list: tables with the same parts, in shape together; words counted, for tables as built those of the
-- runs; lowest terms and the loop that finds them; the greatest share of a batch; from the bytes of files; refusals
-- and whole answers by computation
pub mod SameParts
pub mod SameShape
pub mod ShareCounts
pub mod LowestTerms
pub mod GreatestShare
pub mod ShareFiles
pub mod ShareExamples

-- Refusals handed on
pub mod Handing
-- Edges by where they leave, linked
pub mod LeavingLaws
pub mod EdgeLaws
-- Marks of the start row, and of the targets of a row
pub mod MarkLaws
pub mod TargetMarks
-- Rows: looked for, held in their tables, one more or none that fits
pub mod RowSearch
pub mod RowTables
pub mod NewRow
pub mod PlacedMarks
-- Cells: one, of a symbol, of a row, of all rows
pub mod CellLaws
pub mod Laying
pub mod SymbolFilling
pub mod RowFilling
pub mod AllFilling
-- The whole build
pub mod StartLaws
pub mod RowVerdicts
pub mod Beginning
pub mod Outcome

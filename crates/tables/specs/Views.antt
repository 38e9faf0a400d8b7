-- The table that a built record and three lent lists are.
use Rattle.model.specs.Tables.{Tables, tables}
use Rattle.tables.specs.declared.Table.{Table}

abbrev pub table_in : Table → Tables
table_in t = tables t.built t.cells.now t.rows.now t.pool.now

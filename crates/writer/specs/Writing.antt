-- Bytes written into a lent output from a place on, and an edge table whose edges can be written.
use Rattle.std.specs.Prelude.{◌≡◌, List, ℕ, ◌+◌, ◌≤◌, ◌<◌, length}
use Rattle.std.proofs.lemmas.List.Edits.{sets}
use Rattle.writer.specs.declared.output.Output.{Output}
use Rattle.model.specs.declared.Head.{Head}
use Rattle.model.specs.Rules.{most_clocks, most_edges, most_locations, most_symbols, most_text}
use Rattle.model.specs.Files.{record_head, number_bytes, sizes_body, fields_body, rule_bytes}
use Rattle.model.specs.Layout.{edge_need, edge_at, rule_in}

-- bytes of whole records: of the sizes, of one number, of an edge without text
abbrev pub sizes_length : ℕ
sizes_length = record_head + sizes_body

abbrev pub single_length : ℕ
single_length = record_head + number_bytes

abbrev pub edge_length : ℕ
edge_length = record_head + fields_body

-- the bytes stand in the output from a place on, all else as it was; the next place is past them
pub record Puts (bytes out : List ℕ) (at : ℕ) (out' : List ℕ) (next : ℕ) : Type 0 where
  pub next_is : next ≡ at + length bytes
  pub out_is : out' ≡ sets out at bytes

-- the same of the output as a value, which stays the same lent memory
pub record Put (bytes : List ℕ) (was now : Output) : Type 0 where
  pub same : now.bytes.ghost_name ≡ was.bytes.ghost_name
  pub puts : Puts bytes was.bytes.now was.at now.bytes.now now.at

-- at most 256 edges, each with a text of at most 80 numbers
pub record Table (count : ℕ) (edges : List ℕ) : Type 0 where
  pub count_most : count ≤ most_edges
  pub long : edge_need ≤ length edges
  pub few : (e : ℕ) → e < count → length (edge_at e edges).text ≤ most_text

-- a head record whose numbers take two bytes, with such a table
pub record Writable (head : Head) (edges : List ℕ) : Type 0 where
  pub locations_most : head.locations ≤ most_locations
  pub symbols_most : head.symbols ≤ most_symbols
  pub clocks_most : head.clocks ≤ most_clocks
  pub table : Table head.count edges

-- room for the whole file
pub record Fits (head : Head) (edges : List ℕ) (out : Output) : Type 0 where
  pub writable : Writable head edges
  pub room : out.at + length (rule_bytes (rule_in head edges)) ≤ length out.bytes.now

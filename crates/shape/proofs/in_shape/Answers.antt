-- `shape::in_shape` meets its contract, part by part: what each part settles, and what the next one adds to it.
use mathlib.Core.Path.{◌≡◌, ◌∙◌, ap}
use mathlib.Core.Bool.{Bool, true}
use Rattle.model.specs.declared.Built.{Built}
use Rattle.model.specs.Walks.{built_pairs, built_sizes_ok, cell_need, verdicts_ok}
use Rattle.model.proofs.Flags.{is_false, is_true}
use Rattle.tables.specs.declared.Table.{Table}
use Rattle.tables.specs.Views.{table_in}
use Rattle.shape.specs.Ranges.{long_ok}
use Rattle.shape.proofs.Shape.{Sized, Linked, Coded, sizes_hold, sizes_out, counts_out}
use Rattle.shape.proofs.Shape.{too_short, rows_out, code_out, cell_out, all_but_verdicts}
use Rattle.shape.proofs.in_shape.Goals.{After-long_enough, After-rows_chain, After-codes_below, After-cells_ok}
use Rattle.shape.proofs.in_shape.Goals as goal

-- The lengths by another built record: that of the sizes is the table's.
abbrev long_in : Table → Built → Bool
long_in t b = long_ok b t.cells.now t.pool.now

-- What is settled once the lengths are asked, the rows, the codes and the cells.
sizes_at : (c : After-long_enough) → built_sizes_ok c.args.table.built ≡ true
sizes_at c =
    sizes_hold c.args.table.built _ c.in-Some.ensures.1
    (c.pair_count-pairs.ensures ∙ ap built_pairs c.in-Some.ensures.0)
    (is_true c.counts_ok.ensures c.if-not-counts_ok.false)

sized_at :
    (c : After-rows_chain)
    → let a = c.args.table in Sized a.built a.cells.now a.rows.now a.pool.now
sized_at c = record {
  sizes =
      sizes_hold c.args.table.built _ c.in-Some.ensures.1
      (c.pair_count-pairs.ensures ∙ ap built_pairs c.in-Some.ensures.0)
      (is_true c.counts_ok.ensures c.if-not-counts_ok.false);
  long = is_true (c.long_enough.ensures ∙ ap (long_in c.args.table) c.in-Some.ensures.0) c.if-not-long_enough.false;
}

linked_at :
    (c : After-codes_below)
    → let a = c.args.table in
    Linked a.built a.cells.now a.rows.now a.pool.now c.pair_count-pairs.result
linked_at c = record {
  sized = record {
    sizes =
        sizes_hold c.args.table.built _ c.in-Some.ensures.1
        (c.pair_count-pairs.ensures ∙ ap built_pairs c.in-Some.ensures.0)
        (is_true c.counts_ok.ensures c.if-not-counts_ok.false);
    long = is_true (c.long_enough.ensures ∙ ap (long_in c.args.table) c.in-Some.ensures.0) c.if-not-long_enough.false;
  };
  rows = is_true c.rows_chain.ensures c.if-not-rows_chain.false;
  pairs_are = c.pair_count-pairs.ensures ∙ ap built_pairs c.in-Some.ensures.0;
}

coded_at :
    (c : After-cells_ok)
    → let a = c.args.table in
    Coded a.built a.cells.now a.rows.now a.pool.now c.pair_count-pairs.result c.cell_need-need.result
coded_at c = record {
  linked = record {
    sized = record {
      sizes =
          sizes_hold c.args.table.built _ c.in-Some.ensures.1
          (c.pair_count-pairs.ensures ∙ ap built_pairs c.in-Some.ensures.0)
          (is_true c.counts_ok.ensures c.if-not-counts_ok.false);
      long = is_true (c.long_enough.ensures ∙ ap (long_in c.args.table) c.in-Some.ensures.0) c.if-not-long_enough.false;
    };
    rows = is_true c.rows_chain.ensures c.if-not-rows_chain.false;
    pairs_are = c.pair_count-pairs.ensures ∙ ap built_pairs c.in-Some.ensures.0;
  };
  codes = is_true c.codes_below.ensures c.if-not-codes_below.false;
  need_is = c.cell_need-need.ensures ∙ ap cell_need c.in-Some.ensures.0;
}

pub returns-in_default : goal.returns-in_default
returns-in_default c = sizes_out (table_in c.args.table) c.in_default.ensures

pub returns-then-not-counts_ok : goal.returns-then-not-counts_ok
returns-then-not-counts_ok c =
    counts_out (table_in c.args.table) _ c.in-Some.ensures.1
    (c.pair_count-pairs.ensures ∙ ap built_pairs c.in-Some.ensures.0)
    (is_false c.counts_ok.ensures c.if-not-counts_ok.true)

pub returns-then-not-long_enough : goal.returns-then-not-long_enough
returns-then-not-long_enough c =
    too_short (table_in c.args.table) (sizes_at (goal.at.returns-then-not-long_enough c).After-long_enough)
    (is_false (c.long_enough.ensures ∙ ap (long_in c.args.table) c.in-Some.ensures.0) c.if-not-long_enough.true)

pub returns-then-not-rows_chain : goal.returns-then-not-rows_chain
returns-then-not-rows_chain c =
    rows_out (sized_at (goal.at.returns-then-not-rows_chain c).After-rows_chain)
    (is_false c.rows_chain.ensures c.if-not-rows_chain.true)

pub returns-then-not-codes_below : goal.returns-then-not-codes_below
returns-then-not-codes_below c =
    code_out (linked_at (goal.at.returns-then-not-codes_below c).After-codes_below)
    (is_false c.codes_below.ensures c.if-not-codes_below.true)

pub returns-then-not-cells_ok : goal.returns-then-not-cells_ok
returns-then-not-cells_ok c =
    cell_out (coded_at (goal.at.returns-then-not-cells_ok c).After-cells_ok)
    (is_false (c.cells_ok.ensures _) c.if-not-cells_ok.true)

pub returns : goal.returns
returns c =
    let a = c.args.table in
    c.verdicts_ok.ensures
    ∙ (ap (λ (b : Built). verdicts_ok b.rows 0 b a.rows.now a.pool.now) c.in-Some.ensures.0
    ∙ all_but_verdicts (coded_at (goal.at.returns c).After-cells_ok)
    (is_true (c.cells_ok.ensures _) c.if-not-cells_ok.false))

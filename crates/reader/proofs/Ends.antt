-- The end of the file: N of the rule that was read, and its head record.
use Rattle.std.proofs.Common.{◌≡◌, ◌∙◌, ap, ap₂, List, ℕ, ◌≤◌, ◌<◌, arith, length, None, Some, Ok, Err}
use borrow.Author.Tests.{le-leb}
use Rattle.model.specs.declared.Fault.TheVariants.{OutOfOrder, TooManyPairs}
use Rattle.model.specs.declared.Head.{Head}
use Rattle.model.specs.Rules.{Rule, cm, most_clocks, most_constant, most_locations, most_pairs, pair_count}
use Rattle.model.specs.Layout.{rule_in}
use Rattle.model.proofs.FileOutcomes.{end_unseen, end_too_many, end_fine}
use Rattle.model.proofs.Readable.{table_spells}
use Rattle.model.proofs.TopMost.{parts_top}
use Rattle.model.proofs.Valid.{Parts, sizes_of}
use Rattle.edges.specs.Powers.{small_pairs}
use Rattle.reader.specs.declared.cursor.Cursor.{Cursor}
use Rattle.reader.specs.State.{head_in, State, Finishes}
use Rattle.reader.proofs.Faults.{seen}

pub ends_unseen : {r : Rule} {t : List ℕ} → State r None t → Finishes r (Err OutOfOrder)
ends_unseen {r} state = record { ends = λ p. end_unseen p r (ap (λ (x : Rule). x.locations) state.held) }

module _ {r : Rule} {c : Cursor} {t : List ℕ} (state : State r (Some c) t) (h : Head) (h_is : h ≡ head_in c)
    (n : ℕ) (n_is : n ≡ small_pairs h t) where
  pairs_are : n ≡ pair_count r
  pairs_are =
      let v : Parts r = state.held.so_far.parts in
      let head = h_is ∙ state.held.head_is in
      let spells : rule_in h t ≡ r =
      ap₂ rule_in head state.table_is ∙ table_spells r v (length t) state.long in
      let sized = sizes_of r.locations r.symbols r.clocks v.sizes in
      let locations_is : h.locations ≡ r.locations = ap (λ (y : Head). y.locations) head in
      let clocks_is : h.clocks ≡ r.clocks = ap (λ (y : Head). y.clocks) head in
      n_is
      ∙ rw (
        spells,
        le-leb h.locations most_locations (omega (arith, sized.locations_most)),
        le-leb h.clocks most_clocks (omega (arith, sized.clocks_most)),
        le-leb (cm r) most_constant (parts_top r v),
      )

  pub ends_too_many : most_pairs < n → Finishes r (Err TooManyPairs)
  ends_too_many m = record { ends = λ p. end_too_many p r (seen state.held t) (omega (arith, pairs_are)) }

  pub ends_read : n ≤ most_pairs → Finishes r (Ok h)
  ends_read m = record {
    ends = λ p. (end_fine p r (seen state.held t) (omega (arith, pairs_are)), h_is ∙ state.held.head_is);
  }

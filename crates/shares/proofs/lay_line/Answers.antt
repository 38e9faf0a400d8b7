-- `shares::lay_line` meets its contract: counts and lengths, a share of each, and one in all.
use Rattle.std.proofs.Common.{Bool, ◌≡◌, ◌∙◌, ap, ap₂, List, ◌++◌, ℕ, suc, ◌+◌, take, drop, arith}
use Rattle.model.specs.Words.{Event}
use Rattle.model.specs.Shares.{share, table_says, accepted_of_all, out_of_all}
use Rattle.model.proofs.ShareCounts.{at_most_in_all, some_in_all}
use Rattle.std.specs.Prelude.{sum}
use Rattle.tables.specs.Views.{table_in}
use Rattle.shares.proofs.LineLaws.{sharing_first, share_place, sharing_next, last_place, Known}
use Rattle.shares.proofs.LineLaws.{words_some}
use Rattle.shares.proofs.LineLaws.{accepted_sum, words_sum, line_done, places, used_fit, countable, known}
use Rattle.shares.proofs.lay_line.Goals as goal
use Rattle.shares.proofs.lay_line.Goals.{After-count_words}

-- both arrays are filled
both_known :
    (c : After-count_words)
    → Known (table_says (table_in c.args.tree.now.table)) c.args.tree.now.table.built.symbols c.args.span.seconds
    (c.args.span.events + 1)
    (c.count_words.new.counts ++ drop (c.args.span.events + 1) places)
    (c.list_lengths.new.lengths ++ drop (c.args.span.events + 1) places)
both_known c =
    known (table_in c.args.tree.now.table) c.args.span.events c.args.span.seconds
    (c.args.span.events + 1)
    c.args.span.events_most
    (omega arith)
    c.requires.0
    c.args.tree.now.sized.symbols_some
    c.count_words.ensures
    c.list_lengths.ensures

-- the sums of all places used are what there is in all
module _ {says : List Event → Bool} {s h used : ℕ} {counts lengths : List ℕ}
    (k : Known says s h used counts lengths) {m r : ℕ} (u : used ≡ suc m) where
  all_accepted : r ≡ sum (take used counts) → r ≡ accepted_of_all says s h m
  all_accepted e = e ∙ (ap (λ (n : ℕ). sum (take n counts)) u ∙ accepted_sum k m (omega (arith, u)))

  all_words : r ≡ sum (take used lengths) → r ≡ out_of_all s h m
  all_words e = e ∙ (ap (λ (n : ℕ). sum (take n lengths)) u ∙ words_sum k m (omega (arith, u)))

pub count_words-requires : goal.count_words-requires
count_words-requires c =
    let k = c.requires in
    countable (table_in c.args.tree.now.table) c.args.span.events c.args.span.seconds
    (c.args.span.events + 1)
    c.args.span.events_most
    (omega arith)
    k.0
    c.args.span.seconds_most

pub loop-n-init : goal.loop-n-init
loop-n-init c =
    sharing_first _ _ _
    (used_fit (table_in c.args.tree.now.table) c.args.span.events c.args.span.seconds
    (c.args.span.events + 1)
    c.args.span.events_most
    (omega arith))
    c.requires.1

pub lay_share-requires : goal.lay_share-requires
lay_share-requires c = (
  words_some (both_known (goal.at.lay_share-requires c).After-count_words) _ c.loop-n-test.true,
  share_place c.loop-n.invariant c.loop-n-test.true,
)

pub loop-n-preserved : goal.loop-n-preserved
loop-n-preserved c = sharing_next c.loop-n.invariant c.loop-n-test.true c.lay_share.ensures

pub overflow_cast-accepted : goal.overflow_cast-accepted
overflow_cast-accepted c =
    let a = c.args in
    let k = both_known (goal.at.overflow_cast-accepted c).After-count_words in
    let says = table_says (table_in a.tree.now.table) in
    record {
      fits =
          omega (
            arith,
            all_accepted k {m = a.span.events} (omega arith) c.sum_of-accepted.ensures,
            at_most_in_all says a.tree.now.table.built.symbols a.span.seconds a.span.events,
            c.requires.0,
          );
    }

pub overflow_cast-words : goal.overflow_cast-words
overflow_cast-words c =
    let k = both_known (goal.at.overflow_cast-words c).After-count_words in
    record {
      fits =
          omega (
            arith,
            all_words k {m = c.args.span.events} (omega arith) c.sum_of-words.ensures,
            c.requires.0,
          );
    }

pub lay_share-requires-2 : goal.lay_share-requires-2
lay_share-requires-2 c =
    let a = c.args in
    let k = both_known (goal.at.lay_share-requires-2 c).After-count_words in (
      omega (
        arith,
        all_words k {m = a.span.events} (omega arith) c.sum_of-words.ensures,
        some_in_all a.tree.now.table.built.symbols a.span.seconds a.span.events,
      ),
      last_place c.loop-n.invariant,
    )

pub returns : goal.returns
returns c =
    let k = both_known (goal.at.returns c).After-count_words in
    let u : c.args.span.events + 1 ≡ suc c.args.span.events = omega arith in
    line_done k c.loop-n.invariant c.loop-n-test.false u
    (c.lay_share-2.ensures
    ∙ ap₂ share (all_accepted k u c.sum_of-accepted.ensures) (all_words k u c.sum_of-words.ensures))

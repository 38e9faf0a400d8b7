-- The branch runner's promise where its edges go into a lent array: C takes no array by value.
use Rattle.std.specs.Prelude.{◌≡◌, List, ℕ}
use Rattle.model.specs.declared.Head.{Head}
use Rattle.model.specs.declared.Branch.{Branch}
use Rattle.model.specs.Words.{events_of, most_branch_events}
use Rattle.model.specs.Runs.{least_run, held_back}
use Rattle.model.specs.Layout.{rule_in}
use Rattle.model.specs.Promises.{input_refusal, branch_of}
use Rattle.head_library.specs.declared.BranchAnswer.{BranchAnswer}

-- what run_branches answers
abbrev pub branch_for : Head → List ℕ → ℕ → List ℕ → List ℕ → Branch
branch_for head edges d symbols stamps =
    branch_of (input_refusal head edges d most_branch_events symbols stamps)
    (least_run (rule_in head edges) d (events_of symbols stamps))
    (held_back (rule_in head edges) d (events_of symbols stamps))

abbrev pub without_edges : Branch → BranchAnswer
without_edges b = record {
  number = b.number;
  place = b.place;
  found = b.found;
  start = b.start;
  held = b.held;
  position = b.position;
}

pub record RunsBranchesInto
    (head : Head) (edges : List ℕ) (d : ℕ) (symbols stamps taken' : List ℕ) (answer : BranchAnswer) : Type 0 where
  pub answer_is : answer ≡ without_edges (branch_for head edges d symbols stamps)
  pub taken_is : taken' ≡ (branch_for head edges d symbols stamps).edges

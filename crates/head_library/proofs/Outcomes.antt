-- One outcome for one call of the branch runner into a lent array, and the same as by value.
use mathlib.Core.Path.{◌≡◌, sym, ◌∙◌}
use mathlib.Core.List.{List}
use Prim.Native.Nat.{ℕ}
use Rattle.model.specs.declared.Head.{Head}
use Rattle.model.specs.declared.Branch.{Branch}
use Rattle.model.specs.Promises.{RunsBranches}
use Rattle.head_library.specs.declared.BranchAnswer.{BranchAnswer}
use Rattle.head_library.specs.Lent.{without_edges, RunsBranchesInto}

pub one_branch_run_into :
    (h : Head) (t : List ℕ) (d : ℕ) (xs ts ns₁ ns₂ : List ℕ) (x y : BranchAnswer)
    → RunsBranchesInto h t d xs ts ns₁ x
    → RunsBranchesInto h t d xs ts ns₂ y
    → (x ≡ y) × (ns₁ ≡ ns₂)
one_branch_run_into h t d xs ts ns₁ ns₂ x y p q =
    (p.answer_is ∙ sym q.answer_is, p.taken_is ∙ sym q.taken_is)

pub into_as_by_value :
    (h : Head) (t : List ℕ) (d : ℕ) (xs ts ns : List ℕ) (x : BranchAnswer) (b : Branch)
    → RunsBranchesInto h t d xs ts ns x
    → RunsBranches h t d xs ts b
    → (x ≡ without_edges b) × (ns ≡ b.edges)
into_as_by_value h t d xs ts ns x b p q = (p.answer_is ∙ rw q.answer_is, p.taken_is ∙ rw q.answer_is)

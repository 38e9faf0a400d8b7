-- Two tables that were let pass, as the laws take them.
use Rattle.std.proofs.Common.{◌≡◌, ℕ, arith}
use Rattle.inclusion.specs.declared.sides.Two.{Two}
use Rattle.inclusion.specs.Views.{first_of, second_of, joint_states}
use Rattle.inclusion.specs.Graphs.{Paired}

pub paired_of :
    (p : Two) {n : ℕ} → n ≡ joint_states p
    → Paired (first_of p).built (first_of p).cells (second_of p).built (second_of p).cells n
paired_of p e = record {
  first = p.first.celled;
  second = p.second.celled;
  same_symbols = p.comparable.same_symbols;
  size_is = e;
  size_most = omega (arith, e, p.states_most);
}

-- `inclusion::admit` meets its contract: the first refusal, in order.
use Rattle.std.proofs.Common.{◌≡◌, sym, ap, arith}
use Rattle.model.specs.Inclusion.{Comparable, joint_count}
use Rattle.tables.specs.Views.{table_in}
use Rattle.inclusion.proofs.Refusing.{first_bad, second_bad, symbols_bad, too_many, too_short, admitted_fine}
use Rattle.inclusion.proofs.admit.Goals.{After-joint_count-states}
use Rattle.inclusion.proofs.admit.Goals as goal

pub returns-in_default : goal.returns-in_default
returns-in_default c = rw c.into.ensures (first_bad _ _ _ c.in_default.ensures)

pub returns-in_default-shaped : goal.returns-in_default-shaped
returns-in_default-shaped c =
    rw c.into-in_default-shaped.ensures (second_bad _ _ _ c.in-Some.ensures.0 c.in_default-shaped.ensures)

pub returns-then-first-second : goal.returns-then-first-second
returns-then-first-second c =
    rw c.into-then-first-second.ensures
    (symbols_bad _ _ _ c.in-Some.ensures.0 c.in-Some-shaped.ensures.0
    (rw (c.in-Some.ensures.1, c.in-Some-shaped.ensures.1) at c.if-first-second.true))

-- both in shape, with as many symbols
comparable_at :
    (c : After-joint_count-states) → Comparable (table_in c.args.first) (table_in c.args.second)
comparable_at c = record {
  first_shape = c.in-Some.ensures.0;
  second_shape = c.in-Some-shaped.ensures.0;
  same_symbols = rw (c.in-Some.ensures.1, c.in-Some-shaped.ensures.1) at c.if-first-second.false;
}

-- how many joint states they have
counted_at :
    (c : After-joint_count-states)
    → c.joint_count-states.result ≡ joint_count c.args.first.built c.args.second.built
counted_at c = rw (c.in-Some.ensures.1, c.in-Some-shaped.ensures.1) at c.joint_count-states.ensures

pub returns-then-states-gt-MOST_JOINT_STATES : goal.returns-then-states-gt-MOST_JOINT_STATES
returns-then-states-gt-MOST_JOINT_STATES c =
    let at = (goal.at.returns-then-states-gt-MOST_JOINT_STATES c).After-joint_count-states in
    rw c.into-then-states-gt-MOST_JOINT_STATES.ensures
    (too_many _ _ _ (comparable_at at) (omega (arith, counted_at at, c.if-states-gt-MOST_JOINT_STATES.true)))

pub returns-then-size-states : goal.returns-then-size-states
returns-then-size-states c =
    let at = (goal.at.returns-then-size-states c).After-joint_count-states in
    rw c.into-then-size-states.ensures
    (too_short _ _ _ (comparable_at at) (omega (arith, counted_at at, c.if-states-gt-MOST_JOINT_STATES.false))
    (omega (arith, counted_at at, c.if-size-states.true)))

pub returns : goal.returns
returns c =
    let at = (goal.at.returns c).After-joint_count-states in
    record {
      refusal_is =
          sym (admitted_fine _ _ _ (record {
            comparable = comparable_at at;
            states_most = omega (arith, counted_at at, c.if-states-gt-MOST_JOINT_STATES.false);
            states_in = omega (arith, counted_at at, c.if-size-states.false);
          }));
      admits = (
        ap table_in c.in-Some.ensures.1,
        ap table_in c.in-Some-shaped.ensures.1,
        omega (arith, c.joint_count-states.ensures, c.if-size-states.false),
      );
    }

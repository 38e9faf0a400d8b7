-- `lists::next_word` meets its contract: 38, 39, the next word, the last.
use Rattle.std.proofs.Common.{refl, arith, suc}
use Rattle.model.proofs.Flags.{is_false, is_true}
use Rattle.lists.proofs.Places.{six}
use Rattle.lists.proofs.Nexts.{Found, is_found, taken_count, size_refused, word_refused}
use Rattle.lists.proofs.Nexts.{next_raising, next_raised, was_last, next_longer}
use Rattle.lists.proofs.next_word.Goals as goal

pub returns-then-not-size_ok : goal.returns-then-not-size_ok
returns-then-not-size_ok c =
    rw c.into.ensures
    (record { answer_is = size_refused _ _ (is_false c.size_ok.ensures c.if-not-size_ok.true) })

pub returns-then-not-in_list : goal.returns-then-not-in_list
returns-then-not-in_list c =
    rw c.into-then-not-in_list.ensures
    (record {
      answer_is =
          word_refused _ _ (is_true c.size_ok.ensures c.if-not-size_ok.false)
          (is_false c.in_list.ensures c.if-not-in_list.true);
    })

pub raisable-found-requires : goal.raisable-found-requires
raisable-found-requires c =
    taken_count (record {
      size_ok = is_true c.size_ok.ensures c.if-not-size_ok.false;
      in_list = is_true c.in_list.ensures c.if-not-in_list.false;
      places = six _ _ c.well_formed.1.0;
    })

pub raise-requires : goal.raise-requires
raise-requires c =
    let found : Found c.args.size c.args.word (suc c.in-Some.at) =
    is_found c.size_ok.ensures c.if-not-size_ok.false c.in_list.ensures c.if-not-in_list.false
    (six _ _ c.well_formed.1.0) c.in-Some.ensures in
    next_raising found refl

pub returns-in-Some : goal.returns-in-Some
returns-in-Some c =
    let found : Found c.args.size c.args.word (suc c.in-Some.at) =
    is_found c.size_ok.ensures c.if-not-size_ok.false c.in_list.ensures c.if-not-in_list.false
    (six _ _ c.well_formed.1.0) c.in-Some.ensures in
    record { answer_is = next_raised found refl c.raise.ensures }

pub returns-then-word-size : goal.returns-then-word-size
returns-then-word-size c =
    let found : Found c.args.size c.args.word 0 =
    is_found c.size_ok.ensures c.if-not-size_ok.false c.in_list.ensures c.if-not-in_list.false
    (six _ _ c.well_formed.1.0) c.in_default.ensures in
    record { answer_is = was_last found refl c.if-word-size.true }

pub overflow_add-result : goal.overflow_add-result
overflow_add-result c =
    let found : Found c.args.size c.args.word 0 =
    is_found c.size_ok.ensures c.if-not-size_ok.false c.in_list.ensures c.if-not-in_list.false
    (six _ _ c.well_formed.1.0) c.in_default.ensures in
    record { fits = omega (arith, taken_count found.taken) }

pub returns : goal.returns
returns c =
    let found : Found c.args.size c.args.word 0 =
    is_found c.size_ok.ensures c.if-not-size_ok.false c.in_list.ensures c.if-not-in_list.false
    (six _ _ c.well_formed.1.0) c.in_default.ensures in
    record { answer_is = next_longer found refl c.if-word-size.false }

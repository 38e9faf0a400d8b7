-- The answer about the events of a word, D and their number aside.
use Rattle.std.specs.Prelude.{◌≡◌, List, ℕ, suc, ◌+◌, ◌≤◌, ◌&&◌, leb, ltb, length, get_or, drop}
use Rattle.model.specs.declared.Answer.{Answer}
use Rattle.model.specs.Basics.{refuse, ◌⨾◌}
use Rattle.model.specs.Words.{events_of, events_refusal}
use Rattle.model.specs.Promises.{answer_of}

-- 32 and 33: symbols known, then the lent symbols and stamps
abbrev pub events_answer : ℕ → List ℕ → List ℕ → Answer
events_answer s xs ts = answer_of (events_refusal s 1 0 (events_of xs ts)) 0

-- the answer where i events are good, and the next one, if there is one, is bad: by its symbol, or else by its stamp
abbrev pub stopped_at : ℕ → List ℕ → ℕ → Answer
stopped_at s xs i =
    answer_of
    (refuse (ltb i (length xs) && leb s (get_or xs i 0)) 32 (suc i) ⨾ refuse (ltb i (length xs)) 33 (suc i)) 0

-- Events passed, the last stamp among them: what is still to be found is what is found in all.
pub record Passed (s : ℕ) (xs ts : List ℕ) (i last : ℕ) : Type 0 where
  pub turns : i ≤ length xs
  pub rest_is : events_refusal s (i + 1) last (events_of (drop i xs) (drop i ts)) ≡ events_refusal s 1 0
      (events_of xs ts)

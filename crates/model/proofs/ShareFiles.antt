-- 2.7 from the bytes: files read and built, laid into a batch and counted: each line is that of the runs of the rule
-- which the file's records spell, and 25 does not occur.
use mathlib.Core.Path.{◌≡◌, refl, sym, ◌∙◌, ap}
use mathlib.Core.Bool.{Bool, true, not}
use mathlib.Core.List.{List, [], ◌∷◌, ◌++◌, append_assoc}
use Prim.Native.Nat.{ℕ, zero, suc, ◌+◌, ◌-◌, ◌*◌, ◌≤◌, ◌<◌}
use native.Mathlib.Omega.{arith}
use lib.Dec.{eqb, ltb, leb}
use lib.ListN.{length, take, drop, length-append}
use lib.Seq.{take_at, drop-append-add}
use borrow.Author.Tests.{leb-true, eq-eqb, not-false}
use Rattle.model.specs.declared.Batch.{Batch}
use Rattle.model.specs.declared.Shares.{Shares}
use Rattle.model.specs.Basics.{within, zeros, filled, Refusal, refuse, ◌⨾◌}
use Rattle.model.specs.Words.{Event}
use Rattle.model.specs.Files.{read_rule}
use Rattle.model.specs.Tables.{Tables}
use Rattle.model.specs.Walks.{in_shape}
use Rattle.model.specs.Lists.{most_listed_events, most_seconds, span_ok}
use Rattle.model.specs.Shares.{out_of, accepted_of, out_of_all, accepted_of_all, share_width, share, line_width}
use Rattle.model.specs.Shares.{shares_from, line_by, table_says, line_of, lines_of, words_for, batch_of, most_tables}
use Rattle.model.specs.Shares.{most_words, tables_refusal, shares_refusal, shares_of, table_in}
use Rattle.model.specs.Demands.{FilesCounted, FilesNever25}
use Rattle.model.proofs.Logic.{and_left}
use Rattle.model.proofs.Refusals.{refused_false, first_passes, then_passes}
use Rattle.model.proofs.Numbers.{Among, none, among_refuse, among_then, among_never}
use Rattle.model.proofs.EdgesWritten.{filled_length}
use Rattle.model.proofs.Inclusions.{built_shape}
use Rattle.model.proofs.TwoFiles.{file_built}
use Rattle.model.proofs.SameShape.{same_shape}
use Rattle.model.proofs.ShareCounts.{of_runs}

-- A line has 32 numbers, m being at most 6; so line i begins at 32 · i.
shares_length :
    (k n : ℕ) (says : List Event → Bool) (s h : ℕ) → length (shares_from k n says s h) ≡ share_width * k
shares_length zero n says s h = refl
shares_length (suc k) n says s h =
    let rest : List ℕ = shares_from k (suc n) says s h in
    omega (
      arith,
      length-append (share (accepted_of says s h n) (out_of s h n)) rest,
      shares_length k (suc n) says s h,
    )

pub line_length :
    (says : List Event → Bool) (s m h : ℕ) → m ≤ most_listed_events → length (line_by says s m h) ≡ line_width
unfolding line_by
line_length says s m h few =
    let xs : List ℕ = shares_from (suc m) 0 says s h in
    omega (
      arith,
      length-append (filled (share_width * suc most_listed_events) xs)
          (share (accepted_of_all says s h m) (out_of_all s h m)),
      filled_length (share_width * suc most_listed_events) xs (omega (arith, shares_length (suc m) 0 says s h)),
    )

pub line_at :
    (ts : List Tables) (m h : ℕ) (rest : List ℕ) (i : ℕ) → m ≤ most_listed_events → i < length ts
    → take line_width (drop (line_width * i) (lines_of ts m h ++ rest)) ≡ line_of (table_in ts i) m h
line_at [] m h rest i few l = absurd (omega arith)
line_at (t ∷ ts) m h rest zero few l =
    let line : List ℕ = line_of t m h in
    ap (take line_width) (append_assoc line (lines_of ts m h) rest)
    ∙ take_at line (lines_of ts m h ++ rest) line_width (line_length (table_says t) t.built.symbols m h few)
line_at (t ∷ ts) m h rest (suc i) few l =
    let line : List ℕ = line_of t m h in
    let places : line_width * suc i ≡ length line + line_width * i =
    omega (arith, line_length (table_says t) t.built.symbols m h few) in
    rw (
      places,
      append_assoc line (lines_of ts m h) rest,
      drop-append-add line (lines_of ts m h ++ rest)
          (line_width * i),
    )
    (line_at ts m h rest i few (omega arith))

-- What is counted has passed 38.
events_most :
    (x : Batch) (cells rows pool : List ℕ) (m h : ℕ) → (shares_refusal x cells rows pool m h).number ≡ 0
    → m ≤ most_listed_events
unfolding shares_refusal
events_most x cells rows pool m h e =
    let few : Refusal = refuse (not (within 1 most_tables x.count)) 40 0 in
    let span : Refusal = refuse (not (span_ok m h)) 38 0 in
    let each : Refusal = tables_refusal 1 (batch_of x cells rows pool) m h in
    leb-true m most_listed_events
    (and_left (leb m most_listed_events) (leb h most_seconds)
    (not-false (span_ok m h)
    (refused_false (not (span_ok m h)) 37 0 (first_passes span each (then_passes few (span ⨾ each) e)))))

lines_are :
    (f : Refusal) (ts : List Tables) (m h : ℕ) → f.number ≡ 0
    → (shares_of f ts m h).lines ≡ filled (line_width * most_tables) (lines_of ts m h)
lines_are f ts m h e = rw (eq-eqb f.number 0 e)

pub files_counted : FilesCounted
files_counted batch cells rows pool m h answer i file u promise none_met l f same =
    let test : Refusal = shares_refusal batch cells rows pool m h in
    let ts : List Tables = batch_of batch cells rows pool in
    let passed : test.number ≡ 0 = sym (ap (λ (x : Shares). x.number) promise.answer_is) ∙ none_met in
    let lines : answer.lines ≡ filled (line_width * most_tables) (lines_of ts m h) =
    ap (λ (x : Shares). x.lines) promise.answer_is ∙ lines_are test ts m h passed in
    ap (λ (xs : List ℕ). take line_width (drop (line_width * i) xs)) lines
    ∙ line_at ts m h (zeros (line_width * most_tables - length (lines_of ts m h))) i
    (events_most batch cells rows pool m h passed)
    l
    ∙ of_runs (read_rule file).rule_is (table_in ts i) u m h (file_built file u f) same

-- Where every table is in shape, only 43, 38 and 40 are met.
tables_from_38 :
    (n : ℕ) (ts : List Tables) (m h : ℕ) → ((i : ℕ) → i < length ts → in_shape (table_in ts i) ≡ true)
    → Among 38 43 (tables_refusal n ts m h)
tables_from_38 n [] m h shapes = none refl
tables_from_38 n (t ∷ ts) m h shapes =
    rw (shapes 0 (omega arith))
    (among_then (refuse (ltb most_words (words_for t h m)) 43 n) (tables_refusal (suc n) ts m h)
    (among_refuse (ltb most_words (words_for t h m)) 43 n (omega arith) (omega arith))
    (tables_from_38 (suc n) ts m h (λ i l. shapes (suc i) (omega arith))))

shares_from_38 :
    (x : Batch) (cells rows pool : List ℕ) (m h : ℕ)
    → ((i : ℕ) → i < length (batch_of x cells rows pool) → in_shape (table_in (batch_of x cells rows pool) i) ≡ true)
    → Among 38 43 (shares_refusal x cells rows pool m h)
unfolding shares_refusal
shares_from_38 x cells rows pool m h shapes =
    let few : Bool = within 1 most_tables x.count in
    let each : Refusal = tables_refusal 1 (batch_of x cells rows pool) m h in
    among_then (refuse (not few) 40 0) (refuse (not (span_ok m h)) 38 0 ⨾ each)
    (among_refuse (not few) 40 0 (omega arith) (omega arith))
    (among_then (refuse (not (span_ok m h)) 38 0) each
    (among_refuse (not (span_ok m h)) 38 0 (omega arith) (omega arith))
    (tables_from_38 1 (batch_of x cells rows pool) m h shapes))

pub files_never_25 : FilesNever25
files_never_25 batch cells rows pool m h answer promise files =
    let ts : List Tables = batch_of batch cells rows pool in
    let shapes : (i : ℕ) → i < length ts → in_shape (table_in ts i) ≡ true =
    λ i l.
    same_shape (table_in ts i) (files.alone i)
    (built_shape (read_rule (files.file i)).rule_is (files.alone i)
    (file_built (files.file i) (files.alone i) (files.read_and_built i l)))
    (files.laid i l) in
    ap (λ (x : Shares). eqb x.number 25) promise.answer_is
    ∙ among_never (shares_refusal batch cells rows pool m h) 25 (shares_from_38 batch cells rows pool m h shapes)
    (omega arith)
    (omega arith)

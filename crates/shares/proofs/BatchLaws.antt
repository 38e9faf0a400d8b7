-- The tables of a batch, one after another: what a table that passes leaves behind it, and the refusal of the rest.
use mathlib.Core.Path.{◌≡◌, refl, sym, ◌∙◌, ap}
use mathlib.Core.Bool.{true, false}
use mathlib.Core.List.{List, [], ◌∷◌}
use Prim.Native.Nat.{ℕ, zero, suc, ◌+◌, ◌*◌, ◌≤◌, ◌<◌}
use native.Mathlib.Omega.{arith}
use native.Mathlib.Numerals.{add-one}
use mir.Val.{Val}
use denote.Laws.{Is}
use denote.Struct.Declared.{row}
use Rattle.model.specs.contracts.Batch.{the_type}
use lib.Dec.{ltb}
use lib.ListN.{length, get_or, drop, drop_of_length-le}
use lib.Seq.{drop-cons}
use borrow.Author.Tests.{ltb-false, le-ltb}
use Rattle.model.specs.declared.Built.{Built}
use Rattle.model.specs.declared.Batch.{Batch}
use Rattle.model.specs.Basics.{Refusal, refusal, fine}
use Rattle.model.specs.Tables.{Tables, tables, row_width, no_built}
use Rattle.model.specs.Walks.{cell_need, in_shape}
use Rattle.model.specs.Shares.{most_tables, most_words, words_for, laid_out, tables_refusal}
use Rattle.model.proofs.Logic.{by_test}
use Rattle.shares.specs.Batches.{fault_of}

-- what owning a batch tells: it has sixteen places
pub sixteen : (x : Batch) (vs : List Val) → Is (row the_type) x vs → length x.tables ≡ most_tables
sixteen x vs is = is.1.1.1.0.1.0.1

-- a table that 25 and 43 let pass
pub record Sound (t : Tables) (m h : ℕ) : Type 0 where
  pub shape : in_shape t ≡ true
  pub listed : words_for t h m ≤ most_words

-- its number, as one test after the other gives it
module _ (t : Tables) (m h : ℕ) where
  pub out_of_shape : in_shape t ≡ false → 25 ≡ fault_of t m h
  out_of_shape e = rw e

  pub too_long : in_shape t ≡ true → ltb most_words (words_for t h m) ≡ true → 43 ≡ fault_of t m h
  too_long e f = rw (e, f)

  pub no_fault : in_shape t ≡ true → ltb most_words (words_for t h m) ≡ false → 0 ≡ fault_of t m h
  no_fault e f = rw (e, f)

  sound : fault_of t m h ≡ 0 → Sound t m h
  sound z =
      by_test (in_shape t)
      (λ e.
      by_test (ltb most_words (words_for t h m)) (λ f. absurd (omega (arith, too_long e f, z)))
      (λ f. record { shape = e; listed = ltb-false most_words (words_for t h m) f }))
      (λ e. absurd (omega (arith, out_of_shape e, z)))

  module _ (i : ℕ) (ts : List Tables) where
    sound_next : Sound t m h → tables_refusal i (t ∷ ts) m h ≡ tables_refusal (suc i) ts m h
    sound_next k = rw (k.shape, le-ltb most_words (words_for t h m) k.listed)

    refused_here : (fault_of t m h ≡ 0 → ⊥) → tables_refusal i (t ∷ ts) m h ≡ refusal (fault_of t m h) i
    refused_here n =
        by_test (in_shape t)
        (λ e.
        by_test (ltb most_words (words_for t h m)) (λ f. rw (e, f)) (λ f. absurd (n (sym (no_fault e f)))))
        (λ e. rw e)

    sound_of : tables_refusal i (t ∷ ts) m h ≡ fine → Sound t m h
    sound_of e = sound (by_number (fault_of t m h) refl)
      where
        by_number : (x : ℕ) → fault_of t m h ≡ x → fault_of t m h ≡ 0
        by_number zero g = g
        by_number (suc x) g =
            absurd
            (omega (arith, g, ap (λ (r : Refusal). r.number) (sym (refused_here (λ z. omega (arith, g, z))) ∙ e)))

-- Where the checks stand with i tables passed: the refusal is that of the tables left, in what is lent behind them.
pub record Standing
    (bs : List Built) (cells rows pool : List ℕ) (m h : ℕ) (cells' rows' pool' : List ℕ) (i : ℕ)
    : Type 0 where
  pub same :
      tables_refusal (suc i) (laid_out (drop i bs) cells' rows' pool') m h
      ≡ tables_refusal 1 (laid_out bs cells rows pool) m h

pub standing_first :
    (bs : List Built) (cells rows pool : List ℕ) (m h : ℕ) → Standing bs cells rows pool m h cells rows pool 0
standing_first bs cells rows pool m h = record { same = refl }

-- the first of the tables left
pub first_left : (bs : List Built) (i : ℕ) → i < length bs → drop i bs ≡ get_or bs i no_built ∷ drop (suc i) bs
first_left bs i l = drop-cons bs i no_built l

pub none_left : (bs : List Built) (i : ℕ) → length bs ≤ i → drop i bs ≡ []
none_left bs i l = drop_of_length-le bs l

module _ {bs : List Built} {cells rows pool : List ℕ} {m h : ℕ} {cells' rows' pool' : List ℕ} {i : ℕ}
    (k : Standing bs cells rows pool m h cells' rows' pool' i) where
  -- the refusal of some tables in what is lent
  abbrev refusal_of : List Built → Refusal
  refusal_of xs = tables_refusal (suc i) (laid_out xs cells' rows' pool') m h

  -- Table i.
  module _ (l : i < length bs) where
    abbrev b : Built
    b = get_or bs i no_built

    abbrev t : Tables
    t = tables (get_or bs i no_built) cells' rows' pool'

    -- the tables behind it
    abbrev left : List Tables
    left = laid_out (drop (suc i) bs) (drop (cell_need b) cells') (drop (row_width * b.rows) rows') (drop b.total pool')

    here : tables_refusal (suc i) (t ∷ left) m h ≡ tables_refusal 1 (laid_out bs cells rows pool) m h
    here = sym (ap refusal_of (first_left bs i l)) ∙ k.same

    pub standing_sound : tables_refusal 1 (laid_out bs cells rows pool) m h ≡ fine → Sound t m h
    standing_sound e = sound_of t m h (suc i) left (here ∙ e)

    -- what is lent behind it
    module _ {u : Tables} (e : u ≡ t) {cells'' rows'' pool'' : List ℕ}
        (cells_are : cells'' ≡ drop (cell_need u.built) u.cells)
        (rows_are : rows'' ≡ drop (row_width * u.built.rows) u.rows)
        (pool_is : pool'' ≡ drop u.built.total u.pool) where
      pub behind_is : laid_out (drop (i + 1) bs) cells'' rows'' pool'' ≡ left
      behind_is =
          let c : cells'' ≡ drop (cell_need b) cells' =
          cells_are ∙ ap (λ (x : Tables). drop (cell_need x.built) x.cells) e in
          let n : rows'' ≡ drop (row_width * b.rows) rows' =
          rows_are ∙ ap (λ (x : Tables). drop (row_width * x.built.rows) x.rows) e in
          let p : pool'' ≡ drop b.total pool' = pool_is ∙ ap (λ (x : Tables). drop x.built.total x.pool) e in
          rw (c, n, p, add-one)

      pub standing_next : Sound t m h → Standing bs cells rows pool m h cells'' rows'' pool'' (i + 1)
      standing_next s = record {
        same =
            ap (λ (ts : List Tables). tables_refusal (suc (i + 1)) ts m h) behind_is
            ∙ rw add-one (sym (sound_next t m h (suc i) left s) ∙ here);
      }

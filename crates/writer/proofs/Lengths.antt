-- The length of the file as the code adds it up: the bits of a mask, edges one by one.
use mathlib.Core.Path.{◌≡◌, sym, ap}
use mathlib.Core.List.{List, [], ◌∷◌}
use Prim.Native.Nat.{ℕ, zero, suc, ◌+◌, ◌*◌, ◌/◌, ◌%◌, ◌^◌, ◌≤◌, ◌<◌}
use native.Mathlib.Omega.{arith}
use native.Mathlib.Nat.{pow-suc, div-div-eq-div-mul}
use lib.Count.{ones, ones_step, ones-le}
use lib.ListN.{length, length-append}
use borrow.Author.Tests.{eqb-true, eqb-false}
use Rattle.model.specs.declared.Head.{Head}
use Rattle.model.specs.Basics.{pick, bit, bits_from}
use Rattle.model.specs.Rules.{most_text}
use Rattle.model.specs.Files.{number_bytes, edge_record, edge_records, rule_bytes}
use Rattle.model.specs.Layout.{edge_at, edges_in, locations_in, rule_in}
use Rattle.model.proofs.Logic.{by_test}
use Rattle.model.proofs.FileLengths.{file_length}
use Rattle.model.proofs.FileRead.{edge_record_length}
use Rattle.writer.specs.Writing.{sizes_length, single_length, edge_length}
use Rattle.writer.proofs.Records.{edges_from, edges_from_rest, edges_from_none}

-- as many locations as a mask has bits
bit_length : (i mask : ℕ) → length (pick (bit i mask) (i ∷ []) []) ≡ mask / 2 ^ i % 2
bit_length i mask =
    by_test (bit i mask) (λ e. rw e (sym (eqb-true (mask / 2 ^ i % 2) 1 e)))
    (λ e. rw e (omega (arith, eqb-false (mask / 2 ^ i % 2) 1 e)))

bits_count : (n i mask : ℕ) → mask / 2 ^ i < 2 ^ n → ones (mask / 2 ^ i) ≡ length (bits_from n i mask)
unfolding bits_from
bits_count zero i mask h = omega (arith, ones-le 0 (mask / 2 ^ i) h)
bits_count (suc n) i mask h =
    let half : mask / 2 ^ i / 2 ≡ mask / 2 ^ suc i = rw (pow-suc 2 i) (div-div-eq-div-mul mask (2 ^ i) 2) in
    let few : mask / 2 ^ suc i < 2 ^ n = omega (arith, half, pow-suc 2 n) in
    let first : List ℕ = pick (bit i mask) (i ∷ []) [] in
    omega (
      arith,
      ones_step (mask / 2 ^ i),
      ap ones half,
      bits_count n (suc i) mask few,
      bit_length i mask,
      length-append first (bits_from n (suc i) mask),
    )

pub locations_count : (mask : ℕ) → mask < 2 ^ 32 → ones mask ≡ length (locations_in mask)
locations_count mask h =
    let whole : mask / 2 ^ 0 ≡ mask = omega arith in
    rw whole at (bits_count 32 0 mask (omega (arith, whole)))

-- the lengths of the edges so far, and of those still to come
pub record Summed (count : ℕ) (t : List ℕ) (e sum : ℕ) : Type 0 where
  pub few : sum ≤ (edge_length + number_bytes * most_text) * e
  pub rest_is : sum + length (edges_from e count t) ≡ length (edge_records (edges_in count t))

module _ {count e sum : ℕ} {t : List ℕ} (inv : Summed count t e sum) where
  pub summed_next :
      {text : List ℕ} → e < count → length (edge_at e t).text ≤ most_text → text ≡ (edge_at e t).text
      → Summed count t (e + 1) (sum + (edge_length + number_bytes * length text))
  summed_next {text} h few is =
      let long : length text ≡ length (edge_at e t).text = ap length is in
      record {
        few = omega (arith, inv.few);
        rest_is =
            omega (
              arith,
              inv.rest_is,
              ap length (edges_from_rest count e t h),
              length-append (edge_record (edge_at e t)) (edges_from (e + 1) count t),
              edge_record_length (edge_at e t),
            );
      }

  pub summed_end : count ≤ e → sum ≡ length (edge_records (edges_in count t))
  summed_end h = omega (arith, inv.rest_is, ap length (edges_from_none count e t h))

-- the whole file
pub whole_length :
    (h : Head) (t : List ℕ) {starts ends es : ℕ} → starts ≡ ones h.starts → ends ≡ ones h.ends
    → h.starts < 2 ^ 32
    → h.ends < 2 ^ 32
    → es ≡ length (edge_records (edges_in h.count t))
    → sizes_length + single_length * (starts + ends) + es ≡ length (rule_bytes (rule_in h t))
unfolding rule_in
whole_length h t a b p q g =
    omega (arith, locations_count h.starts p, locations_count h.ends q, file_length (rule_in h t))

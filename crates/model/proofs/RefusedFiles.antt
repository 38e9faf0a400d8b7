-- Refusals 1 to 8 on their conditions, with their places, by computation: cases on both sides of each range, and for
-- each two that stand side by side in the order.
use mathlib.Core.Path.{◌≡◌, refl}
use mathlib.Core.Bool.{true}
use mathlib.Core.List.{List, [], ◌∷◌, ◌++◌}
use Prim.Native.Nat.{ℕ, zero, suc}
use lib.ListN.{replicate}
use Rattle.model.specs.Basics.{Refusal, refusal, fine}
use Rattle.model.specs.Texts.{levels_past, atoms_past, groups_past}
use Rattle.model.specs.Rules.{cm, pair_count}
use Rattle.model.specs.Files.{numbers, record_refusal, with_record, at_end, read_from, read_rule}
use Rattle.model.proofs.Examples.{worked_file}
use Rattle.model.proofs.Cases.{Case, case, all_met}

reads : List ℕ → Refusal
reads file = (read_rule file).refused

-- records by their numbers: sizes; a location or a ceiling; an edge from 0 to 1 on symbol 0; any edge
sized : ℕ → ℕ → ℕ → List ℕ
sized l s k = numbers (6 ∷ 1 ∷ l ∷ s ∷ k ∷ [])

sizes : List ℕ
sizes = sized 2 2 1

location : ℕ → ℕ → List ℕ
location kind x = numbers (2 ∷ kind ∷ x ∷ [])

edge : ℕ → ℕ → List ℕ → List ℕ
edge size resets atoms = numbers (size ∷ 5 ∷ 0 ∷ 1 ∷ 0 ∷ resets ∷ atoms)

bare : ℕ → ℕ → ℕ → ℕ → List ℕ
bare source target symbol resets = numbers (8 ∷ 5 ∷ source ∷ target ∷ symbol ∷ resets ∷ [])

times : ℕ → List ℕ → List ℕ
times zero xs = []
times (suc n) xs = xs ++ times n xs

-- 1: what is cut short; 2: kinds and body lengths
cuts : List Case
cuts =
    case (reads (worked_file ++ (0 ∷ []))) (refusal 1 58)
    ∷ case (reads (worked_file ++ (0 ∷ 0 ∷ 9 ∷ []))) (refusal 1 58)
    ∷ case (reads (worked_file ++ (0 ∷ 0 ∷ 9 ∷ 0 ∷ []))) (refusal 2 58)
    ∷ case (reads (6 ∷ 0 ∷ 1 ∷ 0 ∷ 2 ∷ 0 ∷ [])) (refusal 1 0)
    ∷ case (reads (6 ∷ 0 ∷ 1 ∷ 0 ∷ 2 ∷ 0 ∷ 2 ∷ 0 ∷ 1 ∷ [])) (refusal 1 0)
    ∷ case (reads (0 ∷ 1 ∷ 9 ∷ 0 ∷ replicate 255 0)) (refusal 1 0)
    ∷ case (reads (0 ∷ 1 ∷ 9 ∷ 0 ∷ replicate 256 0)) (refusal 2 0)
    ∷ case (reads (worked_file ++ location 7 0)) (refusal 2 58)
    ∷ case (reads (worked_file ++ location 0 0)) (refusal 2 58)
    ∷ case (reads (sizes ++ location 258 0)) (refusal 2 10)
    ∷ case (reads (sizes ++ numbers (8 ∷ 7 ∷ 0 ∷ 0 ∷ 0 ∷ 0 ∷ []))) (refusal 2 10)
    ∷ case (reads (numbers (4 ∷ 1 ∷ 2 ∷ 2 ∷ []))) (refusal 2 0)
    ∷ case (reads (numbers (8 ∷ 1 ∷ 2 ∷ 2 ∷ 1 ∷ 0 ∷ []))) (refusal 2 0)
    ∷ case (reads (sizes ++ numbers (4 ∷ 2 ∷ 1 ∷ 1 ∷ []))) (refusal 2 10)
    ∷ case (reads (sizes ++ numbers (0 ∷ 3 ∷ []))) (refusal 2 10)
    ∷ case (reads (sizes ++ numbers (4 ∷ 4 ∷ 1 ∷ 1 ∷ []))) (refusal 2 10)
    ∷ case (reads (sizes ++ numbers (0 ∷ 4 ∷ []))) (refusal 2 10)
    ∷ case (reads (sizes ++ (2 ∷ 0 ∷ 4 ∷ 0 ∷ 0 ∷ []))) (refusal 1 10)
    ∷ case (reads (sizes ++ numbers (6 ∷ 5 ∷ 0 ∷ 1 ∷ 0 ∷ []))) (refusal 2 10)
    ∷ case (reads (sizes ++ edge 10 0 (0 ∷ []))) (refusal 2 10)
    ∷ case (reads (sizes ++ edge 12 0 (0 ∷ 0 ∷ []))) (refusal 2 10)
    ∷ case (reads (sizes ++ edge 56 0 (replicate 24 0))) fine
    ∷ case (reads (sizes ++ edge 62 0 (replicate 27 0))) (refusal 2 10)
    ∷ []

cuts_met : all_met cuts ≡ true
unfolding cm pair_count record_refusal with_record at_end read_from read_rule worked_file all_met reads sized sizes
    location
    edge cuts
cuts_met = refl

-- 3: what is out of order, and before 2 of a later record; an empty file is 3 at place 0; 4: edge 257
orders : List Case
orders =
    case (reads []) (refusal 3 0)
    ∷ case (reads (location 2 0)) (refusal 3 0)
    ∷ case (reads (location 5 0)) (refusal 2 0)
    ∷ case (reads (location 2 9)) (refusal 3 0)
    ∷ case (reads (sizes ++ sizes)) (refusal 3 10)
    ∷ case (reads (sizes ++ sized 0 0 0)) (refusal 3 10)
    ∷ case (reads (sizes ++ (location 2 0 ++ sizes))) (refusal 3 16)
    ∷ case (reads (sizes ++ (location 2 0 ++ location 2 0))) (refusal 3 16)
    ∷ case (reads (sizes ++ (location 2 1 ++ location 2 0))) (refusal 3 16)
    ∷ case (reads (sizes ++ (location 2 0 ++ location 2 1))) fine
    ∷ case (reads (sizes ++ (location 3 1 ++ location 3 0))) (refusal 3 16)
    ∷ case (reads (sizes ++ (location 3 1 ++ location 3 1))) (refusal 3 16)
    ∷ case (reads (sizes ++ (location 3 0 ++ location 3 1))) fine
    ∷ case (reads (sizes ++ (location 2 1 ++ location 3 0))) fine
    ∷ case (reads (sizes ++ (location 3 0 ++ location 2 0))) (refusal 3 16)
    ∷ case (reads (location 4 0)) (refusal 3 0)
    ∷ case (reads (sizes ++ (location 4 0 ++ sizes))) (refusal 3 16)
    ∷ case (reads (sizes ++ (location 4 0 ++ location 2 0))) (refusal 3 16)
    ∷ case (reads (sizes ++ (location 4 0 ++ location 3 0))) (refusal 3 16)
    ∷ case (reads (sizes ++ (location 2 0 ++ location 4 0))) fine
    ∷ case (reads (sizes ++ (location 3 0 ++ location 4 0))) fine
    ∷ case (reads (sizes ++ (location 4 0 ++ edge 8 0 []))) fine
    ∷ case (reads (sizes ++ (edge 8 0 [] ++ location 4 0))) (refusal 3 22)
    ∷ case (reads (sizes ++ (location 4 0 ++ (edge 8 0 [] ++ location 4 0)))) (refusal 3 28)
    ∷ case (reads (sizes ++ (location 4 5 ++ location 4 5))) (refusal 3 16)
    ∷ case (reads (sizes ++ (location 4 5 ++ location 4 6))) (refusal 3 16)
    ∷ case (reads (sizes ++ (location 4 0 ++ location 4 0))) (refusal 3 16)
    ∷ case (reads (sizes ++ (location 4 0 ++ location 4 31))) (refusal 3 16)
    ∷ case (reads (sizes ++ times 256 (edge 8 0 []))) fine
    ∷ case (reads (sizes ++ times 257 (edge 8 0 []))) (refusal 4 3082)
    ∷ case (reads (sizes ++ (times 256 (edge 8 0 []) ++ bare 9 9 9 9))) (refusal 4 3082)
    ∷ case (reads (sizes ++ (times 256 (edge 8 0 []) ++ location 4 0))) (refusal 3 3082)
    ∷ []

orders_met : all_met orders ≡ true
unfolding cm pair_count record_refusal with_record at_end read_from read_rule all_met reads sized sizes location edge
    bare
    times orders
orders_met = refl

-- 5 and 6: each number on both sides of its range; 6 before 7, 7 before 8; 8 at the file's length, for which a ceiling
-- counts for nothing
ranges : List Case
ranges =
    case (reads (sized 32 16 4)) fine
    ∷ case (reads (sized 1 1 1)) fine
    ∷ case (reads (sized 33 1 1)) (refusal 5 0)
    ∷ case (reads (sized 1 17 1)) (refusal 5 0)
    ∷ case (reads (sized 1 1 5)) (refusal 5 0)
    ∷ case (reads (sized 0 1 1)) (refusal 5 0)
    ∷ case (reads (sized 1 0 1)) (refusal 5 0)
    ∷ case (reads (sized 1 1 0)) (refusal 5 0)
    ∷ case (reads (sizes ++ location 2 1)) fine
    ∷ case (reads (sizes ++ location 2 2)) (refusal 6 10)
    ∷ case (reads (sizes ++ location 3 1)) fine
    ∷ case (reads (sizes ++ location 3 2)) (refusal 6 10)
    ∷ case (reads (sizes ++ location 4 0)) fine
    ∷ case (reads (sizes ++ location 4 30)) fine
    ∷ case (reads (sizes ++ location 4 31)) (refusal 6 10)
    ∷ case (reads (sizes ++ location 4 256)) (refusal 6 10)
    ∷ case (reads (sizes ++ bare 1 1 1 0)) fine
    ∷ case (reads (sizes ++ bare 2 1 1 0)) (refusal 6 10)
    ∷ case (reads (sizes ++ bare 1 2 1 0)) (refusal 6 10)
    ∷ case (reads (sizes ++ bare 1 1 2 0)) (refusal 6 10)
    ∷ case (reads (sizes ++ bare 1 1 1 2)) (refusal 6 10)
    ∷ case (reads (sizes ++ bare 1 1 1 1)) (refusal 7 10)
    ∷ case (reads (sizes ++ edge 14 1 (0 ∷ 2 ∷ 30 ∷ []))) fine
    ∷ case (reads (sizes ++ edge 14 2 (0 ∷ 2 ∷ 1 ∷ []))) (refusal 6 10)
    ∷ case (reads (sizes ++ edge 14 0 (1 ∷ 2 ∷ 1 ∷ []))) (refusal 6 10)
    ∷ case (reads (sizes ++ edge 14 0 (0 ∷ 5 ∷ 1 ∷ []))) fine
    ∷ case (reads (sizes ++ edge 14 0 (0 ∷ 6 ∷ 1 ∷ []))) (refusal 6 10)
    ∷ case (reads (sizes ++ edge 14 0 (0 ∷ 2 ∷ 31 ∷ []))) (refusal 6 10)
    ∷ case (reads (sizes ++ edge 20 0 (0 ∷ 2 ∷ 1 ∷ 1 ∷ 2 ∷ 1 ∷ []))) (refusal 6 10)
    ∷ case (reads (sized 2 2 4 ++ edge 14 15 (3 ∷ 2 ∷ 1 ∷ []))) fine
    ∷ case (reads (sized 2 2 4 ++ edge 14 16 (3 ∷ 2 ∷ 1 ∷ []))) (refusal 6 10)
    ∷ case (reads (sized 16 1 3 ++ edge 14 0 (0 ∷ 1 ∷ 14 ∷ []))) fine
    ∷ case (reads (sized 17 1 3 ++ edge 14 0 (0 ∷ 1 ∷ 14 ∷ []))) (refusal 8 28)
    ∷ case (reads (sized 9 1 4 ++ edge 14 0 (0 ∷ 1 ∷ 7 ∷ []))) fine
    ∷ case (reads (sized 10 1 4 ++ edge 14 0 (0 ∷ 1 ∷ 7 ∷ []))) (refusal 8 28)
    ∷ case (reads (sized 2 1 3 ++ edge 14 0 (0 ∷ 1 ∷ 30 ∷ []))) fine
    ∷ case (reads (sized 3 1 3 ++ edge 14 0 (0 ∷ 1 ∷ 30 ∷ []))) (refusal 8 28)
    ∷ case (reads (sized 17 1 3 ++ location 4 14)) fine
    ∷ case (reads (sized 32 16 4 ++ location 4 30)) fine
    ∷ case (reads (sized 16 1 3 ++ (location 4 15 ++ edge 14 0 (0 ∷ 1 ∷ 14 ∷ [])))) fine
    ∷ case (reads (sized 17 1 3 ++ (location 4 0 ++ edge 14 0 (0 ∷ 1 ∷ 14 ∷ [])))) (refusal 8 34)
    ∷ case (reads (sized 2 1 4 ++ edge 14 0 (3 ∷ 0 ∷ 11 ∷ []))) fine
    ∷ case (reads (sized 2 1 4 ++ edge 14 0 (3 ∷ 0 ∷ 12 ∷ []))) (refusal 8 28)
    ∷ case (reads (sized 2 1 4 ++ edge 20 0 (3 ∷ 0 ∷ 11 ∷ 3 ∷ 0 ∷ 12 ∷ []))) (refusal 8 34)
    ∷ case (reads (sized 2 1 4 ++ times 2 (edge 14 0 (3 ∷ 0 ∷ 11 ∷ [])))) fine
    ∷ case (reads (sized 2 1 4 ++ (edge 8 0 [] ++ edge 14 0 (3 ∷ 0 ∷ 12 ∷ [])))) (refusal 8 40)
    ∷ case (reads (sized 3 1 4 ++ edge 14 1 (3 ∷ 0 ∷ 12 ∷ []))) (refusal 7 10)
    ∷ []

ranges_met : all_met ranges ≡ true
unfolding cm pair_count record_refusal with_record at_end read_from read_rule all_met reads sized sizes location edge
    bare
    times ranges
ranges_met = refl

-- 7: pinned by an equality wherever it stands, or from both sides in either order, side by side or apart, on the clock
-- that is reset or on another (2.4 corrects 01: at-least 3 with at-most 3). A side alone is no pin, nor is a partner
-- with a constant one off, on another clock, strict, or the same once more. Without resets no pin is asked.
apart : List ℕ
apart = 0 ∷ 4 ∷ 2 ∷ 0 ∷ 0 ∷ 4 ∷ 0 ∷ 1 ∷ 5 ∷ 0 ∷ 3 ∷ 1 ∷ 0 ∷ 4 ∷ 2 ∷ 0 ∷ 0 ∷ 4 ∷ []

sides : List Case
sides =
    case (reads (sizes ++ edge 14 1 (0 ∷ 2 ∷ 3 ∷ []))) fine
    ∷ case (reads (sizes ++ edge 20 1 (0 ∷ 3 ∷ 3 ∷ 0 ∷ 2 ∷ 3 ∷ []))) fine
    ∷ case (reads (sizes ++ edge 20 1 (0 ∷ 2 ∷ 3 ∷ 0 ∷ 3 ∷ 3 ∷ []))) fine
    ∷ case (reads (sized 2 2 2 ++ edge 14 1 (1 ∷ 2 ∷ 3 ∷ []))) fine
    ∷ case (reads (sizes ++ edge 20 1 (0 ∷ 3 ∷ 3 ∷ 0 ∷ 1 ∷ 3 ∷ []))) fine
    ∷ case (reads (sizes ++ edge 20 1 (0 ∷ 1 ∷ 3 ∷ 0 ∷ 3 ∷ 3 ∷ []))) fine
    ∷ case (reads (sizes ++ edge 20 1 (0 ∷ 3 ∷ 0 ∷ 0 ∷ 1 ∷ 0 ∷ []))) fine
    ∷ case (reads (sizes ++ edge 20 1 (0 ∷ 3 ∷ 30 ∷ 0 ∷ 1 ∷ 30 ∷ []))) fine
    ∷ case (reads (sizes ++ edge 56 1 ((0 ∷ 3 ∷ 3 ∷ []) ++ (apart ++ (0 ∷ 1 ∷ 3 ∷ []))))) fine
    ∷ case (reads (sizes ++ edge 56 1 ((0 ∷ 1 ∷ 3 ∷ []) ++ (apart ++ (0 ∷ 3 ∷ 3 ∷ []))))) fine
    ∷ case (reads (sizes ++ edge 56 1 ((0 ∷ 3 ∷ 3 ∷ []) ++ (apart ++ (0 ∷ 1 ∷ 2 ∷ []))))) (refusal 7 10)
    ∷ case (reads (sizes ++ edge 26 1 (0 ∷ 3 ∷ 3 ∷ 0 ∷ 1 ∷ 4 ∷ 0 ∷ 3 ∷ 4 ∷ []))) fine
    ∷ case (reads (sizes ++ edge 26 1 (0 ∷ 3 ∷ 3 ∷ 0 ∷ 1 ∷ 4 ∷ 0 ∷ 3 ∷ 5 ∷ []))) (refusal 7 10)
    ∷ case (reads (sizes ++ edge 20 1 (0 ∷ 3 ∷ 3 ∷ 0 ∷ 1 ∷ 4 ∷ []))) (refusal 7 10)
    ∷ case (reads (sizes ++ edge 20 1 (0 ∷ 3 ∷ 3 ∷ 0 ∷ 1 ∷ 2 ∷ []))) (refusal 7 10)
    ∷ case (reads (sizes ++ edge 20 1 (0 ∷ 3 ∷ 3 ∷ 0 ∷ 0 ∷ 3 ∷ []))) (refusal 7 10)
    ∷ case (reads (sizes ++ edge 20 1 (0 ∷ 4 ∷ 3 ∷ 0 ∷ 1 ∷ 3 ∷ []))) (refusal 7 10)
    ∷ case (reads (sizes ++ edge 20 1 (0 ∷ 4 ∷ 2 ∷ 0 ∷ 0 ∷ 4 ∷ []))) (refusal 7 10)
    ∷ case (reads (sizes ++ edge 20 1 (0 ∷ 1 ∷ 3 ∷ 0 ∷ 1 ∷ 3 ∷ []))) (refusal 7 10)
    ∷ case (reads (sizes ++ edge 20 1 (0 ∷ 3 ∷ 3 ∷ 0 ∷ 3 ∷ 3 ∷ []))) (refusal 7 10)
    ∷ case (reads (sizes ++ edge 14 1 (0 ∷ 3 ∷ 3 ∷ []))) (refusal 7 10)
    ∷ case (reads (sizes ++ edge 14 1 (0 ∷ 1 ∷ 3 ∷ []))) (refusal 7 10)
    ∷ case (reads (sizes ++ edge 14 1 (0 ∷ 1 ∷ 0 ∷ []))) (refusal 7 10)
    ∷ case (reads (sized 2 2 2 ++ edge 20 1 (1 ∷ 3 ∷ 3 ∷ 1 ∷ 1 ∷ 3 ∷ []))) fine
    ∷ case (reads (sized 2 2 2 ++ edge 20 1 (0 ∷ 3 ∷ 3 ∷ 1 ∷ 1 ∷ 3 ∷ []))) (refusal 7 10)
    ∷ case (reads (sized 2 2 2 ++ edge 20 3 (1 ∷ 3 ∷ 3 ∷ 0 ∷ 1 ∷ 3 ∷ []))) (refusal 7 10)
    ∷ case (reads (sized 2 2 2 ++ edge 32 3 (0 ∷ 3 ∷ 3 ∷ 1 ∷ 1 ∷ 3 ∷ 1 ∷ 3 ∷ 4 ∷ 0 ∷ 1 ∷ 4 ∷ []))) (refusal 7 10)
    ∷ case (reads (sizes ++ edge 20 1 (0 ∷ 3 ∷ 3 ∷ 0 ∷ 1 ∷ 31 ∷ []))) (refusal 6 10)
    ∷ case (reads (sizes ++ edge 20 0 (0 ∷ 3 ∷ 3 ∷ 0 ∷ 1 ∷ 4 ∷ []))) fine
    ∷ case (reads (sizes ++ edge 8 0 [])) fine
    ∷ []

sides_met : all_met sides ≡ true
unfolding cm pair_count record_refusal with_record at_end read_from read_rule all_met reads sized sizes edge apart sides
sides_met = refl

-- kind 6: 2 for a body that is short, long or odd, before 3; 3 before kind 5, 4 with edges of kind 5; 6 for each number
-- in whatever group and for text that breaks the group rules, before 7; 7 for a pin in a group
grouped : ℕ → ℕ → List ℕ → List ℕ
grouped size resets text = numbers (size ∷ 6 ∷ 0 ∷ 1 ∷ 0 ∷ resets ∷ text)

inside : List ℕ → List ℕ
inside atoms = (2 ∷ 1 ∷ []) ++ (atoms ++ (4 ∷ 4 ∷ []))

groups : List Case
groups =
    case (reads (sizes ++ grouped 8 0 [])) fine
    ∷ case (reads (sizes ++ grouped 168 0 (times 16 (3 ∷ 0 ∷ 3 ∷ 1 ∷ []) ++ times 8 (2 ∷ 4 ∷ [])))) fine
    ∷ case (reads (sizes ++ numbers (6 ∷ 6 ∷ 0 ∷ 1 ∷ 0 ∷ []))) (refusal 2 10)
    ∷ case (reads (sizes ++ (numbers (7 ∷ 6 ∷ 0 ∷ 1 ∷ 0 ∷ []) ++ (0 ∷ [])))) (refusal 2 10)
    ∷ case (reads (sizes ++ (grouped 9 0 [] ++ (0 ∷ [])))) (refusal 2 10)
    ∷ case (reads (sizes ++ (grouped 169 0 (replicate 80 0) ++ (0 ∷ [])))) (refusal 2 10)
    ∷ case (reads (sizes ++ grouped 170 0 (replicate 81 0))) (refusal 2 10)
    ∷ case (reads (sizes ++ grouped 168 0 (replicate 80 0))) (refusal 6 10)
    ∷ case (reads (grouped 8 0 [])) (refusal 3 0)
    ∷ case (reads (numbers (9 ∷ 6 ∷ []) ++ replicate 9 0)) (refusal 2 0)
    ∷ case (reads (sizes ++ (edge 8 0 [] ++ grouped 8 0 []))) fine
    ∷ case (reads (sizes ++ (grouped 8 0 [] ++ edge 8 0 []))) (refusal 3 22)
    ∷ case (reads (sizes ++ (grouped 8 0 [] ++ location 4 0))) (refusal 3 22)
    ∷ case (reads (sizes ++ (times 255 (edge 8 0 []) ++ grouped 8 0 []))) fine
    ∷ case (reads (sizes ++ (times 256 (edge 8 0 []) ++ grouped 8 0 []))) (refusal 4 3082)
    ∷ case (reads (sizes ++ times 257 (grouped 8 0 []))) (refusal 4 3082)
    ∷ case (reads (sizes ++ (times 256 (grouped 8 0 []) ++ edge 8 0 []))) (refusal 3 3082)
    ∷ case (reads (sizes ++ numbers (8 ∷ 6 ∷ 2 ∷ 1 ∷ 1 ∷ 0 ∷ []))) (refusal 6 10)
    ∷ case (reads (sizes ++ numbers (8 ∷ 6 ∷ 1 ∷ 2 ∷ 1 ∷ 0 ∷ []))) (refusal 6 10)
    ∷ case (reads (sizes ++ numbers (8 ∷ 6 ∷ 1 ∷ 1 ∷ 2 ∷ 0 ∷ []))) (refusal 6 10)
    ∷ case (reads (sizes ++ numbers (8 ∷ 6 ∷ 1 ∷ 1 ∷ 1 ∷ 2 ∷ []))) (refusal 6 10)
    ∷ case (reads (sizes ++ grouped 24 0 (inside (3 ∷ 0 ∷ 5 ∷ 30 ∷ [])))) fine
    ∷ case (reads (sizes ++ grouped 24 0 (inside (3 ∷ 1 ∷ 5 ∷ 30 ∷ [])))) (refusal 6 10)
    ∷ case (reads (sizes ++ grouped 24 0 (inside (3 ∷ 0 ∷ 6 ∷ 30 ∷ [])))) (refusal 6 10)
    ∷ case (reads (sizes ++ grouped 24 0 (inside (3 ∷ 0 ∷ 5 ∷ 31 ∷ [])))) (refusal 6 10)
    ∷ case (reads (sizes ++ grouped 10 0 (4 ∷ []))) (refusal 6 10)
    ∷ case (reads (sizes ++ grouped 10 1 (2 ∷ []))) (refusal 6 10)
    ∷ case (reads (sizes ++ grouped 14 0 (3 ∷ 0 ∷ 2 ∷ []))) (refusal 6 10)
    ∷ case (reads (sizes ++ grouped 12 0 (1 ∷ 4 ∷ []))) (refusal 6 10)
    ∷ case (reads (sizes ++ grouped 10 0 (5 ∷ []))) (refusal 6 10)
    ∷ case (reads (sizes ++ grouped 16 1 (3 ∷ 0 ∷ 2 ∷ 1 ∷ []))) fine
    ∷ case (reads (sizes ++ grouped 20 1 (2 ∷ 3 ∷ 0 ∷ 2 ∷ 1 ∷ 4 ∷ []))) (refusal 7 10)
    ∷ case (reads (sizes ++ grouped 24 1 (inside (3 ∷ 0 ∷ 2 ∷ 1 ∷ [])))) (refusal 7 10)
    ∷ case (reads (sized 17 1 3 ++ grouped 24 0 (inside (3 ∷ 0 ∷ 1 ∷ 14 ∷ [])))) (refusal 8 38)
    ∷ case (reads (sized 16 1 3 ++ grouped 24 0 (inside (3 ∷ 0 ∷ 1 ∷ 14 ∷ [])))) fine
    ∷ []

groups_met : all_met groups ≡ true
unfolding levels_past atoms_past groups_past cm pair_count record_refusal with_record at_end read_from read_rule
    all_met reads
    sized sizes location edge times grouped inside groups
groups_met = refl

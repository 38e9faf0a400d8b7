-- What a row's codes say, by the rule's own final locations.
use mathlib.Core.Path.{◌≡◌, refl, ◌∙◌, ap, ap₂}
use mathlib.Core.Bool.{Bool, ◌||◌}
use mathlib.Core.List.{List, [], ◌∷◌}
use Prim.Native.Nat.{ℕ, ◌+◌}
use lib.ListN.{length}
use Rattle.std.specs.List.{list_any}
use Rattle.model.specs.declared.Head.{Head}
use Rattle.model.specs.Basics.{quotient, bit}
use Rattle.model.specs.Construction.{holds_final}
use Rattle.model.specs.Layout.{rule_in, rule_refusal}
use Rattle.model.specs.Tables.{row_numbers}
use Rattle.model.specs.Walks.{any_final}
use Rattle.model.proofs.Valid.{valid_of}
use Rattle.model.proofs.Readable.{passes_valid}
use Rattle.model.proofs.TablePlaces.{codes_say_lem, final_asc}
use Rattle.codes.specs.declared.Scale.{Scale}
use Rattle.codes.specs.Codes.{Scaled}
use Rattle.codes.proofs.Agreement.{weight_is}
use Rattle.construct.proofs.StartLaws.{final_mask}

-- whether some code stands at a final location
pub codes_asked :
    (weight ends : ℕ) (xs : List ℕ) → list_any (λ x. bit (quotient x weight) ends) xs ≡ any_final weight ends xs
codes_asked weight ends [] = refl
codes_asked weight ends (x ∷ xs) = ap (λ (b : Bool). bit (quotient x weight) ends || b) (codes_asked weight ends xs)

-- a final location has its bit in the head record, so the codes say what they say by the rule
pub says_rule :
    (h : Head) (t : List ℕ) {z : Scale} (xs : List ℕ) → (rule_refusal h t).number ≡ 0 → Scaled (rule_in h t) z
    → any_final z.weight h.ends xs ≡ holds_final (rule_in h t) xs
says_rule h t xs passed scaled =
    ap₂ (λ (w e : ℕ). any_final w e xs) (weight_is scaled) (final_mask h t passed)
    ∙ codes_say_lem (rule_in h t) [] 0 0 0 xs
    (final_asc (rule_in h t) (valid_of (rule_in h t) (passes_valid h t passed)))

-- the same numbers, where codes say the same
pub numbers_say :
    {f g : List ℕ → Bool} (p : ℕ) (xs : List (List ℕ)) → ((x : List ℕ) → f x ≡ g x)
    → row_numbers f p xs ≡ row_numbers g p xs
numbers_say p [] e = refl
numbers_say p (x ∷ xs) e = rw (e x, numbers_say (p + length x) xs e)

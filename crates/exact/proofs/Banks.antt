-- Looking through the configurations of a list: those passed do not have what is looked for.
use Rattle.std.proofs.Common.{◌≡◌, ◌<◌, ◌≤◌, ◌+◌, ◌-◌, ◌*◌, ℕ, Bool, true, false, ◌||◌, List, [], ◌∷◌, ◌++◌, length}
use Rattle.std.proofs.Common.{take, refl, sym, ◌∙◌, ap}
use Rattle.model.specs.Runs.{Config, has_config}
use Rattle.model.proofs.Configs.{some_config}
use Rattle.ages.specs.Ages.{same_config}
use Rattle.exact.specs.Chunks.{config_in, configs_in}
use Rattle.exact.proofs.Chunks.{next_chunk, no_chunk, part_length, configs_part}

pub has_some : (c : Config) (cs : List Config) → has_config c cs ≡ some_config (same_config c) cs
has_some c [] = refl
has_some c (x ∷ xs) = ap (λ (b : Bool). same_config c x || b) (has_some c xs)

-- the configurations that are left decide
pub record Passing (p : Config → Bool) (k : ℕ) (rest : List ℕ) (found : Bool) : Type 0 where
  pub left : ℕ
  pub long : length rest ≡ left * (k + 1)
  pub decides : found ≡ some_config p (configs_in k left rest)

pub passing :
    (p : Config → Bool) (k n : ℕ) (s rest : List ℕ) (found : Bool) → n * (k + 1) ≤ length s
    → rest ≡ take (n * (k + 1)) s
    → found ≡ some_config p (configs_in k n s)
    → Passing p k rest found
passing p k n s rest found h e f = record {
  left = n;
  long = rw e (part_length k n s h);
  decides = f ∙ rw e (ap (some_config p) (sym (configs_part k n s h)));
}

module _ {p : Config → Bool} {k : ℕ} {rest : List ℕ} {found : Bool} (inv : Passing p k rest found) where
  pub pass_none : length rest < k + 1 → false ≡ found
  pass_none h =
      let z : inv.left ≡ 0 = no_chunk k inv.left rest inv.long h in
      sym (inv.decides ∙ ap (λ (n : ℕ). some_config p (configs_in k n rest)) z)

  module _ (x behind : List ℕ) (e : rest ≡ x ++ behind) (l : length x ≡ k + 1) (r : Bool) (test : r ≡ p (config_in x))
    where
      step : found ≡ (r || some_config p (configs_in k (inv.left - 1) behind))
      step =
          inv.decides
          ∙ (ap (some_config p) (next_chunk k inv.left rest x behind inv.long e l).configs_are
          ∙ ap (λ (b : Bool). b || some_config p (configs_in k (inv.left - 1) behind)) (sym test))

      pub pass_found : r ≡ true → true ≡ found
      pass_found f = sym (step ∙ rw f)

      pub pass_next : r ≡ false → Passing p k behind found
      pass_next f = record {
        left = inv.left - 1;
        long = (next_chunk k inv.left rest x behind inv.long e l).long;
        decides = step ∙ rw f;
      }

-- The loops that take a code apart and make it. Taken apart, from the top: the bases from clock k on are out, those
-- before it still zero, and what is left is what power k leaves. Made: the code so far, with the bases still to come,
-- is the code.
use mathlib.Core.Path.{◌≡◌, refl, sym, ◌∙◌, ap}
use mathlib.Core.List.{List, []}
use Prim.Native.Nat.{ℕ, zero, suc, ◌+◌, ◌-◌, ◌*◌, ◌/◌, ◌%◌, ◌^◌, ◌≤◌, ◌<◌}
use native.Mathlib.Omega.{arith}
use native.Mathlib.Nat.{pow-zero, pow-succ', mod-lt, mod-eq_of_lt, div-eq_of_lt, div-one, zero-mod, zero-div}
use native.Mathlib.Nat.{div-lt_iff_lt-mul, mul-le-mul}
use native.Mathlib.Numerals.{add-one}
use lib.ListN.{length, get_or, set, take, drop, length-set, get_or-replicate}
use lib.Seq.{get_or-set_same, get_or-set_other, ext_get_or, drop-cons, drop-length, take-nil}
use Rattle.model.specs.Basics.{quotient, remainder, zeros, filled}
use Rattle.model.specs.Rules.{most_clocks}
use Rattle.model.proofs.EdgesWritten.{filled_length}
use Rattle.model.proofs.Logic.{quotient_is, remainder_is, first_part, less, least, two}
use Rattle.codes.specs.declared.Scale.{Scale}
use Rattle.codes.specs.declared.Pair.{Pair}
use Rattle.codes.specs.Codes.{Powered, power_at, bases_code, packed, bases_from, unpacked}
use Rattle.codes.proofs.PowerLaws.{Raised, raised_of, first_power, past_front}
use Rattle.codes.proofs.Codes.{low_remainder, bases_length, power_least}

-- the base of clock i, by its place
base_at :
    (powers : List ℕ) (n k x i : ℕ) → i < n
    → get_or (bases_from powers n k x) i 0
    ≡ quotient (remainder x (power_at powers (suc (k + i)))) (power_at powers (k + i))
base_at powers zero k x i h = absurd (omega arith)
base_at powers (suc n) k x zero h = let e : k + 0 ≡ k = omega arith in rw e
base_at powers (suc n) k x (suc i) h =
    let e : k + suc i ≡ suc k + i = omega arith in
    rw e (base_at powers n (suc k) x i (omega arith))

-- what a power leaves of a number, it leaves of what the next power left
lower : (m x j : ℕ) → 0 < m → 0 < m ^ j → x % m ^ suc j % m ^ j ≡ x % m ^ j
lower m x j p q = rw (pow-succ' m j) (low_remainder x m (m ^ j) p q)

none_left : (m x d j : ℕ) → 0 < m → ((k : ℕ) → 0 < m ^ k) → x % m ^ (d + j) ≡ 0 → x % m ^ j ≡ 0
none_left m x zero j p q e = let a : 0 + j ≡ j = omega arith in rw a at e
none_left m x (suc d) j p q e =
    let a : suc d + j ≡ suc (d + j) = omega arith in
    let b : x % m ^ suc (d + j) ≡ 0 = rw a at e in
    none_left m x d j p q (sym (lower m x (d + j) p (q (d + j))) ∙ (rw b (zero-mod (m ^ (d + j)))))

-- the bases of a code, as an array
abbrev pub bases_in : List ℕ → ℕ → ℕ → List ℕ
bases_in powers clocks code = filled most_clocks (bases_from powers clocks 0 code)

module _ {m : ℕ} {powers : List ℕ} {clocks : ℕ} (raised : Raised m powers clocks) (code : ℕ) where
  in_length : length (bases_in powers clocks code) ≡ most_clocks
  in_length =
      filled_length most_clocks (bases_from powers clocks 0 code)
      (rw (bases_length powers clocks 0 code) raised.clocks_most)

  in_clocks : (i : ℕ) → i < clocks → get_or (bases_in powers clocks code) i 0 ≡ code % m ^ suc i / m ^ i
  in_clocks i h =
      let all : List ℕ = bases_from powers clocks 0 code in
      let e : 0 + i ≡ i = omega arith in
      let q : 0 < m ^ i = power_least raised i in
      let q' : 0 < m ^ suc i = power_least raised (suc i) in
      first_part 0 all (zeros (most_clocks - length all)) i (rw (bases_length powers clocks 0 code) h)
      ∙ (base_at powers clocks 0 code i h
      ∙ rw (e, raised.each i (omega arith), raised.each (suc i) h)
      (rw (remainder_is code (m ^ suc i) q') (quotient_is (code % m ^ suc i) (m ^ i) q)))

  past_clocks : (i : ℕ) → clocks ≤ i → get_or (bases_in powers clocks code) i 0 ≡ 0
  past_clocks i h =
      past_front most_clocks (bases_from powers clocks 0 code) i (rw (bases_length powers clocks 0 code) h)

-- Taken apart down to clock k.
pub record Taking (m : ℕ) (powers : List ℕ) (clocks code k rest : ℕ) (bases : List ℕ) : Type 0 where
  pub raised : Raised m powers clocks
  pub turns_least : 1 ≤ k
  pub turns_most : k ≤ most_clocks
  pub long : length bases ≡ most_clocks
  pub out : (i : ℕ) → k ≤ i → get_or bases i 0 ≡ get_or (bases_in powers clocks code) i 0
  pub zero_yet : (i : ℕ) → i < k → get_or bases i 0 ≡ 0
  pub rest_low : k ≤ clocks → rest ≡ code % m ^ k
  pub rest_high : clocks ≤ k → rest ≡ code % m ^ clocks

pub taking_start :
    {m : ℕ} {powers : List ℕ} {clocks : ℕ} (code weight rest : ℕ) → Raised m powers clocks → weight ≡ m ^ clocks
    → rest ≡ remainder code weight
    → Taking m powers clocks code most_clocks rest (zeros most_clocks)
taking_start {m} {powers} {clocks} code weight rest raised e r =
    let all : rest ≡ code % m ^ clocks = r ∙ rw e (remainder_is code (m ^ clocks) (power_least raised clocks)) in
    record {
      raised = raised;
      turns_least = omega arith;
      turns_most = omega arith;
      long = refl;
      out = λ i h.
          past_front 0 (zeros most_clocks) i h ∙ sym (past_clocks raised code i (omega (arith, raised.clocks_most)));
      zero_yet = λ i h. get_or-replicate most_clocks i 0 0 h;
      rest_low = λ h.
          let a : clocks ≡ most_clocks = omega (arith, raised.clocks_most) in
          all ∙ ap (λ (k : ℕ). code % m ^ k) a;
      rest_high = λ h. all;
    }

module _ {m : ℕ} {powers : List ℕ} {clocks code k rest : ℕ} {bases : List ℕ}
    (inv : Taking m powers clocks code k rest bases) where
  -- the base of the clock before: what is left, over its power
  next_base :
      (j : ℕ) → k ≡ suc j → j < clocks → get_or (bases_in powers clocks code) j 0 ≡ rest / power_at powers j
  next_base j e h =
      rw (inv.raised.each j (omega arith), inv.rest_low (omega arith), e) (in_clocks inv.raised code j h)

  next_rest : (j : ℕ) → k ≡ suc j → j < clocks → rest % power_at powers j ≡ code % m ^ j
  next_rest j e h =
      rw (inv.raised.each j (omega arith), inv.rest_low (omega arith), e)
      (lower m code j inv.raised.least (power_least inv.raised j))

  pub power_there : (j : ℕ) → j < clocks → 0 < power_at powers j
  power_there j h = rw (inv.raised.each j (omega arith)) (power_least inv.raised j)

  pub taking_off :
      (j power digit next : ℕ) → k ≡ suc j → 1 ≤ j → j < clocks → power ≡ power_at powers j
      → digit ≡ quotient rest power
      → next ≡ remainder rest power
      → Taking m powers clocks code j next (set bases j digit)
  taking_off j power digit next e l h p d n = record {
    raised = inv.raised;
    turns_least = l;
    turns_most = omega (arith, inv.turns_most);
    long = length-set bases j digit ∙ inv.long;
    out = λ i g. elim (two j i) [
      | less f ↦ get_or-set_other bases j i digit 0 (λ q. omega (arith, q)) ∙ inv.out i (omega arith)
      | least f ↦
          let q : i ≡ j = omega arith in
          rw q
          (get_or-set_same bases j digit 0 (omega (arith, inv.long, inv.turns_most))
          ∙ (d ∙ (rw p (quotient_is rest (power_at powers j) (power_there j h)) ∙ sym (next_base j e h))))
    ];
    zero_yet = λ i g. get_or-set_other bases j i digit 0 (λ q. omega (arith, q)) ∙ inv.zero_yet i (omega arith);
    rest_low = λ g. n ∙ (rw p (remainder_is rest (power_at powers j) (power_there j h)) ∙ next_rest j e h);
    rest_high = λ g. absurd (omega arith);
  }

  -- the base of the clock before is 0: nothing is taken off
  taking_none :
      (j : ℕ) → k ≡ suc j → 1 ≤ j → get_or (bases_in powers clocks code) j 0 ≡ 0 → (j ≤ clocks → rest ≡ code % m ^ j)
      → Taking m powers clocks code j rest bases
  taking_none j e l z r = record {
    raised = inv.raised;
    turns_least = l;
    turns_most = omega (arith, inv.turns_most);
    long = inv.long;
    out = λ i g. elim (two j i) [
      | less f ↦ inv.out i (omega arith)
      | least f ↦
          let q : i ≡ j = omega arith in
          rw q (inv.zero_yet j (omega arith) ∙ sym z)
    ];
    zero_yet = λ i g. inv.zero_yet i (omega arith);
    rest_low = r;
    rest_high = λ g. inv.rest_high (omega arith);
  }

  -- less is left than its power
  pub taking_small :
      (j power : ℕ) → k ≡ suc j → 1 ≤ j → j < clocks → power ≡ power_at powers j → rest < power
      → Taking m powers clocks code j rest bases
  taking_small j power e l h p q =
      let s : rest < power_at powers j = rw p at q in
      taking_none j e l (next_base j e h ∙ div-eq_of_lt s) (λ g. sym (mod-eq_of_lt s) ∙ next_rest j e h)

  -- no such clock
  pub taking_past : (j : ℕ) → k ≡ suc j → 1 ≤ j → clocks ≤ j → Taking m powers clocks code j rest bases
  taking_past j e l h =
      taking_none j e l (past_clocks inv.raised code j h)
      (λ g.
      let q : clocks ≡ j = omega arith in
      inv.rest_high (omega arith) ∙ ap (λ (n : ℕ). code % m ^ n) q)

  -- nothing is left: the bases still to come are 0
  none_to_come : rest ≡ 0 → (i : ℕ) → suc i ≤ k → i < clocks → code % m ^ suc i ≡ 0
  none_to_come e i g f =
      elim (two k clocks) [
        | less h ↦
            let a : (k - suc i) + suc i ≡ k = omega arith in
            none_left m code (k - suc i) (suc i) inv.raised.least (power_least inv.raised)
            (rw a (sym (inv.rest_low (omega arith)) ∙ e))
        | least h ↦
            let a : (clocks - suc i) + suc i ≡ clocks = omega arith in
            none_left m code (clocks - suc i) (suc i) inv.raised.least (power_least inv.raised)
            (rw a (sym (inv.rest_high h) ∙ e))
      ]

  pub taking_nothing : rest ≡ 0 → bases ≡ bases_in powers clocks code
  taking_nothing e =
      ext_get_or 0 bases (bases_in powers clocks code) (inv.long ∙ sym (in_length inv.raised code))
      (λ i g. elim (two i k) [
        | less f ↦
            inv.zero_yet i f
            ∙ elim (two i clocks) [
              | less h ↦ sym (in_clocks inv.raised code i h ∙ rw (none_to_come e i f h) (zero-div (m ^ i)))
              | least h ↦ sym (past_clocks inv.raised code i h)
            ]
        | least f ↦ inv.out i f
      ])

  -- the base of clock 0 is what power 1 leaves
  last_rest : k ≤ 1 → rest ≡ code % m ^ 1
  last_rest h =
      let q : k ≡ 1 = omega (arith, inv.turns_least) in
      inv.rest_low (omega (arith, inv.raised.clocks_least)) ∙ ap (λ (n : ℕ). code % m ^ n) q

  pub taking_end : (digit : ℕ) → k ≤ 1 → digit ≡ rest → set bases 0 digit ≡ bases_in powers clocks code
  taking_end digit h e =
      ext_get_or 0 (set bases 0 digit) (bases_in powers clocks code)
      (length-set bases 0 digit ∙ (inv.long ∙ sym (in_length inv.raised code)))
      (λ i g. elim (two 0 i) [
        | less f ↦ get_or-set_other bases 0 i digit 0 (λ q. omega (arith, q)) ∙ inv.out i (omega arith)
        | least f ↦
            let q : i ≡ 0 = omega arith in
            rw q
            (get_or-set_same bases 0 digit 0 (omega (arith, inv.long))
            ∙ (e
            ∙ (last_rest h
            ∙ sym
            (in_clocks inv.raised code 0 (omega (arith, inv.raised.clocks_least))
            ∙ rw (pow-zero m) (div-one (code % m ^ 1))))))
      ])

  -- each fits into 16 bits
  pub digit_most : (j power : ℕ) → k ≡ suc j → j < clocks → power ≡ power_at powers j → quotient rest power < 2 ^ 16
  digit_most j power e h p =
      let q : 0 < m ^ j = power_least inv.raised j in
      let small : rest < m * m ^ j =
      rw (inv.rest_low (omega arith), e, pow-succ' m j)
      (mod-lt code (rw (← pow-succ' m j) (power_least inv.raised (suc j)))) in
      let below : rest / m ^ j < m = (div-lt_iff_lt-mul q).1 small in
      rw (p, inv.raised.each j (omega arith), quotient_is rest (m ^ j) q) (omega (arith, inv.raised.most))

  pub last_most : k ≤ 1 → rest < 2 ^ 16
  last_most h =
      let small : rest < m ^ 1 = rw (last_rest h) (mod-lt code (power_least inv.raised 1)) in
      omega (arith, first_power m, inv.raised.most)

-- a pair from what was taken off
pub unpack_is :
    (z : Scale) (code location : ℕ) (bases : List ℕ) → location ≡ quotient code z.weight
    → bases ≡ bases_in z.powers z.clocks code
    → ◌≡◌ {A = Pair} (record { location = location; bases = bases }) (unpacked z code)
unpack_is z code location bases l b = rw (b, l)

-- The code so far, with the bases from clock k on still to come.
pub record Packing (powers : List ℕ) (clocks k code whole : ℕ) (bases : List ℕ) : Type 0 where
  pub turns_least : 1 ≤ k
  pub turns_most : k ≤ most_clocks
  pub long : length bases ≡ most_clocks
  pub code_most : code ≤ 2 ^ 49 * k
  pub rest_is : code + bases_code powers k (take (clocks - k) (drop k bases)) ≡ whole

-- one base more
code_head :
    (powers : List ℕ) (clocks k : ℕ) (bases : List ℕ) → k < clocks → k < length bases
    → bases_code powers k (take (clocks - k) (drop k bases))
    ≡ get_or bases k 0 * power_at powers k + bases_code powers (k + 1) (take (clocks - (k + 1)) (drop (k + 1) bases))
code_head powers clocks k bases h g =
    let a : clocks - k ≡ suc (clocks - (k + 1)) = omega arith in
    rw (a, drop-cons bases k 0 g, add-one k)

code_none :
    (powers : List ℕ) (clocks k : ℕ) (bases : List ℕ) → clocks ≤ k
    → bases_code powers k (take (clocks - k) (drop k bases)) ≡ 0
code_none powers clocks k bases h = let a : clocks - k ≡ 0 = omega arith in rw a

-- a product fits
pub product_most : (a b : ℕ) → a < 2 ^ 16 → b < 2 ^ 32 → a * b ≤ 2 ^ 48
product_most a b h g =
    let x : a ≤ 2 ^ 16 = omega arith in
    let y : b ≤ 2 ^ 32 = omega arith in
    let p : a * b ≤ 2 ^ 16 * 2 ^ 32 = mul-le-mul x y in
    omega arith

-- what follows the base of clock 0, which power 0 counts once
abbrev pub later_code : List ℕ → ℕ → List ℕ → ℕ
later_code powers clocks bases = bases_code powers 1 (take (clocks - 1) (drop 1 bases))

pub packing_start :
    (powers : List ℕ) (clocks first : ℕ) (bases : List ℕ) → length bases ≡ most_clocks → first ≤ 2 ^ 49
    → Packing powers clocks 1 first (first + later_code powers clocks bases) bases
packing_start powers clocks first bases long h = record {
  turns_least = omega arith;
  turns_most = omega arith;
  long = long;
  code_most = omega arith;
  rest_is = refl;
}

pub pack_is :
    {z : Scale} (powered : Powered z) (l low : ℕ) (bases : List ℕ) → length bases ≡ most_clocks
    → low ≡ get_or bases 0 0
    → l * z.weight + low + later_code z.powers z.clocks bases ≡ packed z l bases
pack_is {z} powered l low bases long b =
    let raised = raised_of powered in
    let one : power_at z.powers 0 ≡ 1 = raised.each 0 (omega arith) ∙ pow-zero (z.top + 2) in
    let none : z.clocks - 0 ≡ z.clocks = omega arith in
    let later : ℕ = later_code z.powers z.clocks bases in
    let all : bases_code z.powers 0 (take z.clocks bases) ≡ get_or bases 0 0 * power_at z.powers 0 + later =
    rw none at (code_head z.powers z.clocks 0 bases raised.clocks_least (omega (arith, long))) in
    rw (all, one, b) (turn (l * z.weight) (get_or bases 0 0) later)
  where
    turn : (a b c : ℕ) → a + b + c ≡ a + (b * 1 + c)
    turn a b c = omega arith

module _ {powers : List ℕ} {clocks k code whole : ℕ} {bases : List ℕ}
    (inv : Packing powers clocks k code whole bases) where
  pub packing_next :
      (digit power next : ℕ) → k < most_clocks → k < clocks → digit ≡ get_or bases k 0 → power ≡ power_at powers k
      → digit < 2 ^ 16
      → power < 2 ^ 32
      → next ≡ code + digit * power
      → Packing powers clocks (k + 1) next whole bases
  packing_next digit power next h g d p s w n =
      let rest : ℕ = bases_code powers (k + 1) (take (clocks - (k + 1)) (drop (k + 1) bases)) in
      record {
        turns_least = omega arith;
        turns_most = omega arith;
        long = inv.long;
        code_most = omega (arith, n, inv.code_most, product_most digit power s w);
        rest_is =
            rw n
            (again code (digit * power) rest
            ∙ rw (d, p) (rw (← code_head powers clocks k bases g (omega (arith, inv.long))) inv.rest_is));
      }
    where
      again : (a b c : ℕ) → a + b + c ≡ a + (b + c)
      again a b c = omega arith

  pub packing_skip :
      (next : ℕ) → k < most_clocks → clocks ≤ k → next ≡ code → Packing powers clocks (k + 1) next whole bases
  packing_skip next h g e = record {
    turns_least = omega arith;
    turns_most = omega arith;
    long = inv.long;
    code_most = omega (arith, e, inv.code_most);
    rest_is =
        rw (e, code_none powers clocks (k + 1) bases (omega arith))
        (rw (code_none powers clocks k bases g) at inv.rest_is);
  }

  pub packing_end : most_clocks ≤ k → code ≡ whole
  packing_end h =
      let e : k ≡ length bases = omega (arith, inv.turns_most, inv.long) in
      let none : drop k bases ≡ [] = rw e (drop-length bases) in
      let done : code + 0 ≡ whole = rw (none, take-nil {A = ℕ} (clocks - k)) at inv.rest_is in
      omega arith

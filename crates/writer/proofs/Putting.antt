-- Bytes put one after another: what two writes in a row leave, and a loop that puts a list of bytes part by part.
use mathlib.Core.Path.{◌≡◌, refl, sym, ◌∙◌, ap, ap₂}
use mathlib.Core.List.{List, [], ◌∷◌, ◌++◌, append-nil, append_assoc}
use Prim.Native.Nat.{ℕ, suc, ◌+◌, ◌*◌, ◌≤◌}
use native.Mathlib.Omega.{arith}
use lib.ListN.{length, set, length-append}
use lib.Seq.{sets, length-sets}
use Rattle.model.specs.Rules.{Edge, most_text}
use Rattle.model.specs.Files.{number_bytes, fields_body, numbers, edge_record}
use Rattle.writer.specs.declared.output.Output.{Output}
use Rattle.writer.specs.Writing.{Puts, Put}

sets_append : (xs ys l : List ℕ) (i : ℕ) → sets l i (xs ++ ys) ≡ sets (sets l i xs) (i + length xs) ys
sets_append [] ys l i = let e : i + 0 ≡ i = omega arith in rw e
sets_append (x ∷ xs) ys l i =
    let e : i + suc (length xs) ≡ suc i + length xs = omega arith in
    rw e (sets_append xs ys (set l i x) (suc i))

pub none_put : (out : List ℕ) (at : ℕ) → Puts [] out at out at
none_put out at = record { next_is = omega arith; out_is = refl }

module _ {xs out out₁ : List ℕ} {at n₁ : ℕ} (p : Puts xs out at out₁ n₁) where
  pub put_wide : length out₁ ≡ length out
  put_wide = ap length p.out_is ∙ length-sets out at xs

  pub then_put : {ys out₂ : List ℕ} {n₂ : ℕ} → Puts ys out₁ n₁ out₂ n₂ → Puts (xs ++ ys) out at out₂ n₂
  then_put {ys} q = record {
    next_is = omega (arith, length-append xs ys, p.next_is, q.next_is);
    out_is =
        q.out_is
        ∙ (ap₂ (λ (l : List ℕ) (n : ℕ). sets l n ys) p.out_is p.next_is ∙ sym (sets_append xs ys out at));
  }

pub then_puts :
    {xs ys : List ℕ} {was now then : Output} → Put xs was now → Put ys now then → Put (xs ++ ys) was then
then_puts p q = record { same = q.same ∙ p.same; puts = then_put p.puts q.puts }

-- some of all the bytes are put, the rest is still to be put and has room
pub record Putting (all rest : List ℕ) (was now : Output) : Type 0 where
  pub done : List ℕ
  pub put : Put done was now
  pub rest_is : done ++ rest ≡ all
  pub room : now.at + length rest ≤ length now.bytes.now

pub putting_start :
    {all rest : List ℕ} {out : Output} → rest ≡ all → out.at + length all ≤ length out.bytes.now
    → Putting all rest out out
putting_start {all} {rest} {out} e h = record {
  done = [];
  put = record { same = refl; puts = none_put out.bytes.now out.at };
  rest_is = e;
  room = rw e h;
}

module _ {all rest : List ℕ} {was now : Output} (inv : Putting all rest was now) where
  pub putting_room : (xs later : List ℕ) → rest ≡ xs ++ later → now.at + length xs ≤ length now.bytes.now
  putting_room xs later e = omega (arith, inv.room, ap length e, length-append xs later)

  pub putting_next :
      (xs later : List ℕ) {then : Output} → rest ≡ xs ++ later → Put xs now then → Putting all later was then
  putting_next xs later {then} e p = record {
    done = inv.done ++ xs;
    put = then_puts inv.put p;
    rest_is = append_assoc inv.done xs later ∙ (ap (λ (l : List ℕ). inv.done ++ l) (sym e) ∙ inv.rest_is);
    room = omega (arith, inv.room, ap length e, length-append xs later, p.puts.next_is, put_wide p.puts);
  }

  pub putting_end : rest ≡ [] → Put all was now
  putting_end e =
      let whole : inv.done ≡ all =
      sym (append-nil inv.done) ∙ (ap (λ (l : List ℕ). inv.done ++ l) (sym e) ∙ inv.rest_is) in
      rw (← whole) inv.put

pub putting_as :
    {all xs ys : List ℕ} {was now : Output} → Putting all xs was now → xs ≡ ys → Putting all ys was now
putting_as inv e = rw e at inv

-- an edge, by its first six numbers and its text
pub edge_put :
    (e : Edge) {text : List ℕ} {kind source target symbol resets : ℕ} {was now then : Output}
    → kind ≡ e.kind
    → source ≡ e.source
    → target ≡ e.target
    → symbol ≡ e.symbol
    → resets ≡ e.resets
    → text ≡ e.text
    → Put
    (numbers
    ((fields_body + number_bytes * length text) ∷ kind ∷ source ∷ target ∷ symbol ∷ resets ∷ []))
    was now
    → Put (numbers text) now then
    → Put (edge_record e) was then
edge_put e a b c d f g p q = rw (← a, ← b, ← c, ← d, ← f, ← g) (then_puts p q)

-- the same of an edge and of one that is equal to it
module _ {e f : Edge} (same : e ≡ f) where
  pub few_as : length f.text ≤ most_text → length e.text ≤ most_text
  few_as h = rw same h

  pub edge_room :
      (at : ℕ) (out : List ℕ) → at + length (edge_record f) ≤ length out → at + length (edge_record e) ≤ length out
  edge_room at out h = rw same h

  pub record_put : {was now : Output} → Put (edge_record e) was now → Put (edge_record f) was now
  record_put p = rw same at p

-- `reader::cursor::Cursor::first` meets its contract: 3, 5, else the sizes.
use Rattle.std.proofs.Common.{◌≡◌, ◌∙◌, sym, refl, true, false}
use denote.Enum.Bare.{differs_true, differs_false}
use Rattle.model.specs.Rules.{sizes_ok}
use Rattle.model.specs.Files.{number_at}
use Rattle.reader.specs.contracts.record.Kind.{the_type}
use Rattle.reader.specs.declared.record.Kind.TheVariants.{Sizes}
use Rattle.reader.proofs.Faults.{first_other, first_bad}
use Rattle.reader.proofs.Taken.{sizes_taken}
use Rattle.reader.proofs.cursor.Cursor.first.Goals as goal

pub returns-then-ne : goal.returns-then-ne
returns-then-ne c =
    λ r t state. first_other state c.args.record.kind
    (differs_true the_type _ _ (sym c.ne.ensures ∙ c.if-ne.true)) c.args.record.body.now

pub returns-then-not-sizes_ok : goal.returns-then-not-sizes_ok
returns-then-not-sizes_ok c =
    let body = c.args.record.body.now in
    let first : c.args.record.kind ≡ Sizes = differs_false the_type tt _ _ (sym c.ne.ensures ∙ c.if-ne.false) in
    let bad : sizes_ok (number_at 0 body) (number_at 1 body) (number_at 2 body) ≡ false = cc in
    λ r t state. first_bad state c.args.record.kind first body bad

pub returns : goal.returns
returns c =
    let body = c.args.record.body.now in
    let first : c.args.record.kind ≡ Sizes = differs_false the_type tt _ _ (sym c.ne.ensures ∙ c.if-ne.false) in
    let good : sizes_ok (number_at 0 body) (number_at 1 body) (number_at 2 body) ≡ true = cc in
    λ r t state. sizes_taken state c.args.record.kind first body c.args.record.fits _
    (c.from-4.ensures ∙ c.number-locations.ensures) (c.from-5.ensures ∙ c.number-symbols.ensures)
    (c.from-6.ensures ∙ c.number-clocks.ensures) good _ _ refl refl refl refl

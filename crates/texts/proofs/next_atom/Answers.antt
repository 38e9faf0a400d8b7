-- `texts::next_atom` meets its contract: the numbers before the first mark of an atom are no marks of atoms.
use mathlib.Core.Path.{sym, ◌∙◌, ap}
use Rattle.model.specs.Texts.{is_atom}
use Rattle.std.specs.Prelude.{ℕ, eqb, position}
use Rattle.texts.proofs.Found.{atom_passed, all_passed}
use Rattle.texts.proofs.next_atom.Goals as goal

pub returns-in-Some : goal.returns-in-Some
returns-in-Some c =
    atom_passed c.args.text.now c.args.from _
    (sym (c.in-Some.ensures ∙ ap (position (λ (n : ℕ). eqb n is_atom)) c.text_from.ensures))

pub returns-in-None : goal.returns-in-None
returns-in-None c =
    all_passed c.args.text.now c.args.from
    (sym (c.in-None.ensures ∙ ap (position (λ (n : ℕ). eqb n is_atom)) c.text_from.ensures))

-- What a number says as a mark of a text of kind 6.
use Rattle.std.specs.Prelude.{ℕ, eqb}
use Rattle.model.specs.Basics.{pick}
use Rattle.model.specs.Texts.{opens_all, opens_any, is_atom, closes}
use Rattle.texts.specs.declared.Mark.{Mark}
use Rattle.texts.specs.declared.Mark.TheVariants.{OpensAll, OpensAny, IsAtom, Closes, Other}

abbrev pub mark_of : ℕ → Mark
mark_of number =
    pick (eqb number opens_all) OpensAll
    (pick (eqb number opens_any) OpensAny
    (pick (eqb number is_atom) IsAtom
    (pick (eqb number closes) Closes Other)))

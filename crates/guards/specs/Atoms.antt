-- What an atom that the code has read off a text is.
use Rattle.model.specs.Texts.{Atom}
use Rattle.guards.specs.declared.StoredAtom.{StoredAtom}

abbrev pub atom_of : StoredAtom → Atom
atom_of a = record { clock = a.clock; relation = a.relation; constant = a.constant }

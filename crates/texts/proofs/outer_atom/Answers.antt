-- `texts::outer_atom` meets its contract: the outermost level goes on behind as many levels as are open.
use Rattle.texts.proofs.Outermost.{deep_start, outer_found, deep_atom, deep_open, outer_closed, deep_close}
use Rattle.texts.proofs.Outermost.{deep_end}
use Rattle.texts.proofs.outer_atom.Goals as goal

pub loop-rest-init : goal.loop-rest-init
loop-rest-init c = deep_start _ _ _ c.text_from-rest.ensures

pub returns-then-depth-eq0 : goal.returns-then-depth-eq0
returns-then-depth-eq0 c =
    outer_found c.loop-rest.invariant c.in-len1-up.len_at_least c.in-IsAtom.ensures c.if-depth-eq0.true

pub loop-rest-preserved-in-IsAtom : goal.loop-rest-preserved-in-IsAtom
loop-rest-preserved-in-IsAtom c =
    deep_atom c.loop-rest.invariant c.in-len1-up.len_at_least c.in-IsAtom.ensures _
    c.text_from-rest-in-IsAtom.ensures c.if-depth-eq0.false

pub loop-rest-preserved-in-OpensAll : goal.loop-rest-preserved-in-OpensAll
loop-rest-preserved-in-OpensAll c =
    deep_open c.loop-rest.invariant c.in-len1-up.len_at_least c.from.ensures c.in-OpensAll.is

pub returns-then-depth-eq0-2 : goal.returns-then-depth-eq0-2
returns-then-depth-eq0-2 c =
    outer_closed c.loop-rest.invariant c.in-len1-up.len_at_least c.from.ensures c.in-Closes.is c.if-depth-eq0-2.true

pub loop-rest-preserved : goal.loop-rest-preserved
loop-rest-preserved c =
    deep_close c.loop-rest.invariant c.in-len1-up.len_at_least c.from.ensures c.in-Closes.is c.if-depth-eq0-2.false

pub returns : goal.returns
returns c = deep_end c.loop-rest.invariant c.in_default.len_below

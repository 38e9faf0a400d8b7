-- `guards::whole_text` meets its contract: the atoms stand behind the fields, as many as the count says.
use Rattle.guards.proofs.Plain.{kind_is, text_is}
use Rattle.guards.proofs.whole_text.Goals as goal

pub returns : goal.returns
returns c =
    let k = c.from.ensures in (
      kind_is c.args.edge.table.now c.args.edge.number _ _ k c.if-from-ne-PLAIN_EDGE.false c.from-count.ensures,
      text_is c.args.edge.table.now c.args.edge.number _ _ k c.if-from-ne-PLAIN_EDGE.false c.from-count.ensures,
    )

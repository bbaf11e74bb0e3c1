use Rattle.document_reader.proofs.Picks.{picked_there}
use Rattle.document_reader.proofs.picking.pick.Goals as goal

pub returns-in-Some-first_named : goal.returns-in-Some-first_named
returns-in-Some-first_named c = picked_there c.args.name c.in-Some-name.name c.args.of.now.definitions.items c.as_slice-definitions.result.now c.in-Some.first c.in-Some-first_named.place c.in-Some-name.is c.as_slice-definitions.ensures.value c.in-Some.ensures c.in-Some-first_named.ensures

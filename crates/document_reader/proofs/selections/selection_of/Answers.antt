use Rattle.document_reader.proofs.ReadingSteps.{tree_of_inline}
use Rattle.document_reader.proofs.selections.selection_of.Goals as goal

pub returns : goal.returns
returns c = tree_of_inline c.args.from.on c.args.from.directives c.args.from.selections

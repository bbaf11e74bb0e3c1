use Rattle.document_reader.specs.Trees.{selection_tree}
use Rattle.distinct_selections.proofs.AddingSteps.{repeated_at}
use Rattle.distinct_selections.proofs.kept.is_alike_at.Goals as goal

pub returns-then-place-selections : goal.returns-then-place-selections
returns-then-place-selections c = λ is. repeated_at c.args.selections.now c.args.place (selection_tree c.args.selection.now) c.index-selections-place.result c.if-place-selections.true c.index-selections-place.is (c.alike.ensures is)

use Rattle.std.proofs.Common.{map}
use Rattle.std.proofs.lemmas.Result.{on_ok_weaker}
use Rattle.document_reader.specs.Trees.{selection_tree}
use Rattle.distinct_selections.proofs.ShorteningSteps.{spread_added}
use Rattle.distinct_selections.proofs.distinct.add_spread.Goals as goal

pub returns : goal.returns
returns c = on_ok_weaker c.keep.result (λ keeps values. spread_added values c.args.name.now c.in_ok-copy_name.field-0 c.new.result (map selection_tree c.args.kept.now.selections.items) (map selection_tree c.keep.new.self.selections.items)
    c.in_ok-copy_name.ensures c.new.ensures.items keeps) c.keep.ensures

use Rattle.std.proofs.Common.{◌≡◌, drop, map}
use Rattle.schema_rules.specs.Views.{item_tree, named_kind}
use Rattle.schema_rules.specs.First.{first_of}
use Rattle.schema_model.specs.BadDefault.{bad_default_at}
use Rattle.schema_model.proofs.bad_default.first_bad_default.Given as goal

-- What is left answers as the whole.
abbrev pub invariant-loop-item : goal.invariant-loop-item
invariant-loop-item g l = first_of (bad_default_at (g.T.InputTypes.forms l.forms) (map named_kind l.types.items.now)) (map item_tree (drop l.item-index l.items)) ≡ first_of (bad_default_at (g.T.InputTypes.forms l.forms) (map named_kind l.types.items.now)) (map item_tree l.items)

use Rattle.std.proofs.Common.{◌≡◌, drop, map}
use Rattle.schema_model.specs.DraftViews.{input_view}
use Rattle.std.specs.List.{list_all}
use Rattle.schema_model.specs.Implementing.{has_argument}
use Rattle.schema_model.proofs.implementing.has_arguments.Given as goal

-- What is left answers as the whole.
abbrev pub invariant-loop-argument : goal.invariant-loop-argument
invariant-loop-argument l = list_all (has_argument (map input_view l.own.items.items)) (map input_view (drop l.argument-index l.wanted)) ≡ list_all (has_argument (map input_view l.own.items.items)) (map input_view l.wanted)

use Rattle.std.proofs.Common.{◌≡◌, drop, map}
use Rattle.schema_model.specs.DraftViews.{input_view}
use Rattle.std.specs.List.{list_all}
use Rattle.schema_model.specs.Implementing.{may_be_there}
use Rattle.schema_model.proofs.implementing.may_be_all_there.Given as goal

-- What is left answers as the whole.
abbrev pub invariant-loop-argument : goal.invariant-loop-argument
invariant-loop-argument l = list_all (may_be_there (map input_view l.wanted.items.items)) (map input_view (drop l.argument-index l.own)) ≡ list_all (may_be_there (map input_view l.wanted.items.items)) (map input_view l.own)

use Rattle.std.proofs.Common.{◌≡◌, drop, map}
use Rattle.schema_model.specs.DraftViews.{type_view}
use Rattle.schema_rules.specs.First.{first_of}
use Rattle.schema_model.specs.Implementing.{lack_at}
use Rattle.schema_model.proofs.implementing.first_not_implemented.Given as goal

-- What is left answers as the whole.
abbrev pub invariant-loop-of : goal.invariant-loop-of
invariant-loop-of l = first_of (lack_at (map type_view l.types)) (map type_view (drop l.of-index l.types)) ≡ first_of (lack_at (map type_view l.types)) (map type_view l.types)

use Rattle.std.proofs.Common.{◌≡◌, drop, map}
use Rattle.schema_model.specs.DraftViews.{field_view, type_view}
use Rattle.schema_rules.specs.First.{first_of}
use Rattle.schema_model.specs.Implementing.{lacking_at}
use Rattle.schema_model.proofs.implementing.lacking_among.Given as goal

-- What is left answers as the whole.
abbrev pub invariant-loop-field : goal.invariant-loop-field
invariant-loop-field l = first_of (lacking_at (map type_view l.types) (map field_view l.own.items.items)) (map field_view (drop l.field-index l.wanted)) ≡ first_of (lacking_at (map type_view l.types) (map field_view l.own.items.items)) (map field_view l.wanted)

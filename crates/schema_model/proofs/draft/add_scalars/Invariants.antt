use Rattle.std.proofs.Common.{◌≡◌, ◌++◌, drop, map}
use Rattle.schema_model.specs.DraftViews.{type_view}
use Rattle.schema_rules.specs.Views.{named_kind}
use Rattle.schema_model.specs.Drafts.{scalar_draft}
use Rattle.schema_model.proofs.draft.add_scalars.Given as goal

-- Those so far, and then those of what is left.
abbrev pub invariant-loop-at : goal.invariant-loop-at
invariant-loop-at l = map type_view l.drafts.items ++ map scalar_draft (map named_kind (drop l.at l.types)) ≡ map type_view l.initial.drafts.items ++ map scalar_draft (map named_kind (drop l.defined l.types))

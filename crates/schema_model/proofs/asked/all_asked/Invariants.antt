use Rattle.std.proofs.Common.{◌≡◌, ◌++◌, drop, map}
use Rattle.input_values.specs.defaults.Filling.{type_draft}
use Rattle.schema_model.specs.Defaults.{asked}
use Rattle.schema_model.specs.DraftViews.{type_view}
use Rattle.schema_model.proofs.asked.all_asked.Given as goal

-- Those so far, and then those of what is left.
abbrev pub invariant-loop-draft : goal.invariant-loop-draft
invariant-loop-draft l = map type_draft l.types.items ++ map asked (map type_view (drop l.draft-index l.drafts)) ≡ map asked (map type_view l.drafts)

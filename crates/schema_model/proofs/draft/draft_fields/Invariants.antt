use Rattle.std.proofs.Common.{◌≡◌, ◌++◌, drop, map}
use Rattle.schema_model.specs.DraftViews.{field_view}
use Rattle.schema_rules.specs.Views.{named_kind}
use Rattle.schema_model.specs.Drafts.{field_draft}
use Rattle.schema_reader.specs.Trees.{field_tree}
use Rattle.schema_model.proofs.draft.draft_fields.Given as goal

-- Those so far, and then those of what is left.
abbrev pub invariant-loop-field : goal.invariant-loop-field
invariant-loop-field l = map field_view l.drafts.items ++ map (field_draft (map named_kind l.types.items.now)) (map field_tree (drop l.field-index l.fields)) ≡ map (field_draft (map named_kind l.types.items.now)) (map field_tree l.fields)

use Rattle.std.proofs.Common.{◌≡◌, ◌++◌, drop, map}
use Rattle.schema_model.specs.DraftViews.{type_view}
use Rattle.std.specs.List.{flat_map}
use Rattle.schema_rules.specs.Views.{named_kind}
use Rattle.schema_model.specs.Drafts.{definition_draft}
use Rattle.schema_reader.specs.Trees.{definition_tree}
use Rattle.schema_model.proofs.draft.defined_drafts.Given as goal

-- Those so far, and then those of what is left.
abbrev pub invariant-loop-def : goal.invariant-loop-def
invariant-loop-def l = map type_view l.drafts.items ++ flat_map (definition_draft (map named_kind l.types.items.now)) (map definition_tree (drop l.def-index l.text.definitions.items)) ≡ flat_map (definition_draft (map named_kind l.types.items.now)) (map definition_tree l.text.definitions.items)

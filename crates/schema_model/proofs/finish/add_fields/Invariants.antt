use Rattle.std.proofs.Common.{◌≡◌, ◌++◌, drop, map}
use Rattle.schema_model.specs.DraftViews.{field_view}
use Rattle.schema_model.specs.Entries.{field_data}
use Rattle.schema_model.specs.Schemas.{field_of}
use Rattle.schema_model.proofs.finish.add_fields.Given as goal

-- Those so far, and then those of what is left.
abbrev pub invariant-loop-draft : goal.invariant-loop-draft
invariant-loop-draft g l = map field_data l.fields.items ++ map (field_of (g.T.InputTypes.forms l.forms) l.owner) (map field_view (drop l.draft-index l.drafts)) ≡ map field_data l.initial.fields.items ++ map (field_of (g.T.InputTypes.forms l.forms) l.owner) (map field_view l.drafts)

use Rattle.std.proofs.Common.{◌≡◌, ◌++◌, drop, map, length}
use Rattle.schema_model.specs.DraftViews.{type_view}
use Rattle.schema_model.specs.Entries.{field_data, type_data}
use Rattle.schema_model.specs.Schemas.{types_from, fields_from}
use Rattle.schema_model.proofs.finish.tables_of.Given as goal

-- Those so far, and then those of what is left.
abbrev pub invariant-loop-owner : goal.invariant-loop-owner
invariant-loop-owner g l = record {
  types : map type_data l.types.items ++ types_from (g.T.InputTypes.forms l.forms) (length l.fields.items) (map type_view (drop l.owner l.drafts)) ≡ types_from (g.T.InputTypes.forms l.forms) 0 (map type_view l.drafts);
  fields : map field_data l.fields.items ++ fields_from (g.T.InputTypes.forms l.forms) l.owner (map type_view (drop l.owner l.drafts)) ≡ fields_from (g.T.InputTypes.forms l.forms) 0 (map type_view l.drafts);
}

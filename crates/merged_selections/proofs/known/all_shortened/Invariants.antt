use Rattle.std.proofs.Common.{take}
use Rattle.schema_model.specs.SchemaViews.{schema_data}
use Rattle.merged_selections.specs.Again.{HaveSome}
use Rattle.merged_selections.proofs.known.all_shortened.Given as goal

abbrev pub invariant-loop-group : goal.invariant-loop-group
invariant-loop-group l = HaveSome (schema_data l.schema) (take l.group-index l.groups) l.some.items

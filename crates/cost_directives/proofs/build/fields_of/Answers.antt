use Rattle.std.proofs.Common.{map, ap, ◌∙◌}
use Rattle.std.proofs.lemmas.List.{map-append}
use Rattle.schema_model.specs.Entries.{field_number}
use Rattle.cost_directives.proofs.NumbersMade.{next_number}
use Rattle.cost_directives.proofs.build.fields_of.Goals as goal

pub loop-number-preserved : goal.loop-number-preserved
loop-number-preserved c = next_number (map field_number c.loop-number.fields.items) (map field_number c.push.new.self.items) c.loop-number.number
    (ap (map field_number) c.in_ok-push.ensures.items ∙ map-append field_number c.loop-number.fields.items _) c.loop-number.invariant

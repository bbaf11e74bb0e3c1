use Rattle.std.proofs.Common.{map, ap, ◌∙◌}
use Rattle.std.proofs.lemmas.List.{map-append}
use Rattle.schema_model.specs.Numbers.{type_number}
use Rattle.cost_directives.proofs.NumbersMade.{next_number}
use Rattle.cost_directives.proofs.build.types_of.Goals as goal

pub loop-number-preserved : goal.loop-number-preserved
loop-number-preserved c = next_number (map type_number c.loop-number.types.items) (map type_number c.push.new.self.items) c.loop-number.number
    (ap (map type_number) c.in_ok-push.ensures.items ∙ map-append type_number c.loop-number.types.items _) c.loop-number.invariant

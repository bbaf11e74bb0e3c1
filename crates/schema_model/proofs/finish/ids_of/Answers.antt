use Rattle.std.proofs.Common.{map, ap, ◌∙◌}
use Rattle.std.proofs.lemmas.List.{map-append}
use Rattle.schema_model.specs.Entries.{field_number}
use Rattle.schema_model.proofs.DraftSteps.{one_more_id}
use Rattle.schema_model.proofs.finish.ids_of.Goals as goal

pub loop-number-preserved : goal.loop-number-preserved
loop-number-preserved c = one_more_id (map field_number c.loop-number.ids.items) (map field_number c.push.new.self.items) c.loop-number.number c.args.end _ c.loop-number-test.true
    (ap (map field_number) c.in_ok-push.ensures.items ∙ map-append field_number c.loop-number.ids.items _) c.loop-number.invariant

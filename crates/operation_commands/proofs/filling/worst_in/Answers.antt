use Rattle.std.proofs.Common.{sym, ap, subst}
use Rattle.response_model.specs.Bound.{IsSound}
use Rattle.schema_model.specs.SchemaViews.{schema_data}
use Rattle.plan_model.specs.SelectedFields.{holds}
use Rattle.acceptance.specs.Requests.{setting, plan_tree}
use Rattle.response_model.specs.Components.{part_of}
use Rattle.operation_commands.specs.Asked.{request_in}
use Rattle.operation_commands.proofs.filling.worst_in.Goals as goal

pub returns-in-Ok-worst_of-clause-accepted : goal.returns-in-Ok-worst_of-clause-accepted
returns-in-Ok-worst_of-clause-accepted c =
    let accepted = c.in-Ok-accepted.ensures.accepted in
    let r = request_in c.args.asked.now c.in-Ok.inputs in
    let p = accepted.is_planned.prepared in
    let bound = accepted.has_bound in
    let tree = plan_tree r p in (
      c.in-Ok.inputs,
      c.in-Ok.ensures.held,
      (
        c.in-Ok-accepted.accepted.plan,
        c.in-Ok-accepted.accepted.bound,
        accepted,
        c.in-Ok-worst_of.ensures tree (accepted.is_planned.rows, subst (λ s. IsSound (holds s) tree) (sym (ap schema_data c.in-Ok-accepted.ensures.schema)) accepted.is_sound),
        c.worst_attains_the_bound.ensures (setting r p) p.root p.operation c.in-Ok-accepted.accepted.bound (part_of c.args.part) accepted.is_planned.well accepted.is_sound (bound.of_types, bound.of_fields) (record { of_types = bound.types_within; of_fields = bound.fields_within }),
      ),
    )

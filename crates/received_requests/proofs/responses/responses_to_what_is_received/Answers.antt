-- They differ in the offsets of names alone.
use Rattle.std.proofs.Common.{sym, None, true, ◌∙◌}
use Rattle.variable_coercion.specs.Variables.{values_by_name}
use Rattle.response_model.specs.Plan.{single}
use Rattle.plan_model.specs.Operations.{root_place, root_position}
use Rattle.stripped_responses.specs.Stripping.{rewritten_setting, rewritten_root}
use Rattle.acceptance.specs.Requests.{setting}
use Rattle.received_requests.specs.Received.{received_setting}
use Rattle.received_requests.proofs.ReceivedResponses.{differs, root_is, values_are, answers_moved, cost_moved}
use Rattle.received_requests.proofs.responses.responses_to_what_is_received.Goals as goal

pub returns-clause-fit : goal.returns-clause-fit
returns-clause-fit c r p alias q is x t =
    let o = x.operation in
    let root = root_is r p q x (c.the_operation_that_is_sent_is_picked.ensures.kind r p alias q o is x.picked) in
    let values = values_are r p q x (c.the_values_of_variables_are_kept.ensures r p alias q o is x.picked) in
    let d = differs r p alias q o is (c.the_operation_that_is_sent_is_picked.ensures.selections r p alias q o is x.picked) (c.the_fragments_that_are_sent_are_reached.ensures r p alias q o is x.picked (values_by_name p.values)) in
    let e = rewritten_setting alias (setting r p) in
    let f = received_setting q (values_by_name p.values) o in
    let sent = rewritten_root alias r.schema p.root p.operation in
    let own = root_position p.root o in
    let back = c.offsets_change_no_response.ensures.symmetric e f sent own d in (
      λ answers. (
          let moved = answers_moved q o x.root p.root x.values p.values t root values answers in
          (c.offsets_change_no_response.ensures.fits f e (single true) (root_place p.root) own sent t back moved.0, c.offsets_change_no_response.ensures.keeps f e None (root_place p.root) own sent t back moved.1)
          ),
      λ answers. answers_moved q o p.root x.root p.values x.values t (sym root) (sym values)
          (c.offsets_change_no_response.ensures.fits e f (single true) (root_place p.root) sent own t d answers.0, c.offsets_change_no_response.ensures.keeps e f None (root_place p.root) sent own t d answers.1),
    )

pub returns-clause-costs : goal.returns-clause-costs
returns-clause-costs c r p alias q is x part t =
    let o = x.operation in
    let root = root_is r p q x (c.the_operation_that_is_sent_is_picked.ensures.kind r p alias q o is x.picked) in
    let values = values_are r p q x (c.the_values_of_variables_are_kept.ensures r p alias q o is x.picked) in
    let d = differs r p alias q o is (c.the_operation_that_is_sent_is_picked.ensures.selections r p alias q o is x.picked) (c.the_fragments_that_are_sent_are_reached.ensures r p alias q o is x.picked (values_by_name p.values)) in
    let e = rewritten_setting alias (setting r p) in
    let f = received_setting q (values_by_name p.values) o in
    let sent = rewritten_root alias r.schema p.root p.operation in
    let own = root_position p.root o in
    cost_moved q o part t x.root p.root x.values p.values root values ∙ sym (c.offsets_change_no_response.ensures.costs e f part (root_place p.root) sent own t d)

use Rattle.std.proofs.Common.{◌≡◌, [], true, string_bytes, sym, ap, ◌∙◌, subst}
use Rattle.serde_json.specs.View.{members_view}
use Rattle.input_values.specs.coercion.Forms.{fields_of, is_field}
use Rattle.input_values.specs.coercion.Given.{given_names}
use Rattle.input_values.specs.coercion.Objects.{wrong_name}
use Rattle.variable_coercion.specs.Json.{json_members}
use Rattle.variable_coercion.proofs.JsonSteps.{known_here}
use Rattle.variable_coercion.proofs.json.members.unknown_name.Goals as goal

pub names-preserved : goal.names-preserved
names-preserved g c =
    let fields = fields_of (g.T.InputTypes.forms c.args.types.now c.args.of.number) in
    let whole = wrong_name true fields [] (given_names (json_members (members_view c.args.members.now.entries))) in
    known_here fields (string_bytes c.in-Some.name.now) (given_names (json_members (members_view c.next.new.self))) whole (sym (c.has_field.ensures ∙ ap (is_field fields) c.as_str.ensures.value) ∙ c.if-not-has_field.false)
    (subst (λ ms. wrong_name true fields [] (given_names (json_members (members_view ms))) ≡ whole) c.in-Some.ensures.steps c.names.invariant)

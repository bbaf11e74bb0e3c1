use Rattle.std.proofs.Common.{inl, inr, subst}
use Rattle.command_outcomes.specs.Check.{HoldsWith, IfUnchecked, IsUnchecked}
use Rattle.operation_commands.proofs.explaining_schemas.explain_schema_text.Goals as goal

pub returns-in-Ok : goal.returns-in-Ok
returns-in-Ok c =
    let weighed = c.in-Ok.weighed in
    inr (inl (weighed.schema, weighed.weights, subst (λ t. HoldsWith t c.args.undeclared weighed.schema weighed.weights) c.as_str.ensures c.in-Ok.ensures.held, c.told_schema.ensures))

pub returns-in-Err-Refused : goal.returns-in-Err-Refused
returns-in-Err-Refused c =
    let refusal = c.in-Err-Refused.refusal in
    let unchecked = subst (λ f. IfUnchecked f c.as_str.result.now) c.in-Err-Refused.field-0-is c.in-Err-Refused.ensures.refused in
    inr (inr (refusal, subst (λ t. IsUnchecked t refusal) c.as_str.ensures unchecked, c.refused_explaining.ensures))

use Rattle.std.proofs.Common.{inl, inr, map, sym, subst}
use Rattle.command_outcomes.specs.Check.{IfUnchecked, IsUnchecked, HoldsWith}
use Rattle.operation_commands.specs.Audit.{ArePricesWithin, AreFound, IsAuditOf}
use Rattle.operation_commands.proofs.AuditWalks.{bytes_of}
use Rattle.operation_commands.proofs.AuditedPrices.{all_within}
use Rattle.operation_commands.proofs.auditing.audit_files.Goals as goal

pub audited-requires : goal.audited-requires
audited-requires c =
    let all = all_within c.args.asked.now c.args.schema c.deref.result.now (map bytes_of c.args.contents.now) c.in-Ok-find_in_all.findings.items c.in-Ok-find_in_all.ensures.found in
    record { within = subst ArePricesWithin (sym c.deref-in-Ok-find_in_all.ensures.value) all }

pub returns-in-Err-Refused : goal.returns-in-Err-Refused
returns-in-Err-Refused c =
    let refusal = c.in-Err-Refused.refusal in
    let unchecked = subst (λ f. IfUnchecked f c.as_str.result.now) c.in-Err-Refused.field-0-is c.in-Err-Refused.ensures.refused in
    inr (inr (refusal, subst (λ t. IsUnchecked t refusal) c.as_str.ensures unchecked, c.refused_schema.ensures))

pub returns-in-Ok-find_in_all : goal.returns-in-Ok-find_in_all
returns-in-Ok-find_in_all c =
    let audit = c.args.asked.now in
    let findings = c.in-Ok-find_in_all.findings.items in
    let held = subst (λ text. HoldsWith text audit.undeclared c.in-Ok.weighed.schema c.in-Ok.weighed.weights) c.as_str.ensures c.in-Ok.ensures.held in
    inr (inl (
      (c.in-Ok.weighed.schema, c.in-Ok.weighed.weights, held),
      (
        findings,
        subst (λ names. AreFound audit c.args.schema names (map bytes_of c.args.contents.now) findings) c.deref.ensures.value c.in-Ok-find_in_all.ensures.found,
        subst (λ fs. IsAuditOf audit.most fs c.audited.result) c.deref-in-Ok-find_in_all.ensures.value c.audited.ensures,
      ),
    ))

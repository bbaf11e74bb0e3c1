use Rattle.std.proofs.Common.{sym, subst, Some}
use Rattle.std.specs.BTreeMap.{Updates}
use Rattle.input_values.specs.defaults.Filling.{pair_cmp}
use Rattle.collected_fields.proofs.FindingLaws.{keeps_one}
use Rattle.collected_fields.proofs.findings.Findings.keep.Goals as goal

pub returns : goal.returns
returns c = keeps_one c.args.self.now c.know.new.self c.args.of.number c.args.number c.args.fields (subst (λ m. Updates pair_cmp c.args.self.now.fields m (c.args.number, c.args.of.number) (Some c.args.fields)) (sym c.know.ensures) c.in_ok-insert.ensures.updates)

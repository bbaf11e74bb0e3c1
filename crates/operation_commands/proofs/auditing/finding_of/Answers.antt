use Rattle.std.proofs.Common.{◌∙◌, ap, option_map}
use Rattle.operation_commands.specs.Audit.{asked_alone, subject_of}
use Rattle.operation_commands.proofs.Verdicts.{verdict_alone}
use Rattle.operation_commands.proofs.auditing.finding_of.Goals as goal

pub returns : goal.returns
returns c =
    let audit = c.args.of.now.asked.now in
    let name = c.args.name.now in
    record {
      document = c.in_ok-copy_of.ensures ∙ c.as_str.ensures;
      subject = c.in_ok-subject_of.ensures ∙ ap subject_of c.name_of-2.ensures;
      verdict = verdict_alone audit name (option_map (λ n. n.text) c.args.operation.now.name) c.in_ok-asked.asked c.args.texts.now c.in_ok-verdict.verdict
          (c.in_ok-asked.ensures ∙ ap (asked_alone audit name) c.name_of.ensures) c.requires.ready.alone c.in_ok-verdict.ensures.verdict;
      is_steps = c.steps_of.ensures;
    }

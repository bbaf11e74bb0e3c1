use Rattle.std.proofs.Common.{◌∙◌, ap, codes}
use Rattle.std.proofs.lemmas.Result.{IfOk-weaker}
use Rattle.clap.specs.Simple.{with_rule}
use Rattle.command_words.specs.Apps.{flag}
use Rattle.command_words.proofs.builder.with_list.Goals as goal

pub returns : goal.returns
returns c = IfOk-weaker c.with_flag.result _ _ (λ r h. h ∙ ap (λ a. with_rule a (flag (codes "trusted-only"))) c.in_ok-command.ensures) c.with_flag.ensures

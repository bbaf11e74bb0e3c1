use Rattle.std.proofs.Common.{◌∙◌, ap, codes}
use Rattle.std.proofs.lemmas.Result.{IfOk-weaker}
use Rattle.clap.specs.Simple.{with_rule}
use Rattle.command_words.specs.Apps.{place}
use Rattle.command_words.proofs.builder.with_files.Goals as goal

pub returns : goal.returns
returns c = IfOk-weaker c.with_place-2.result _ _ (λ r h. h ∙ ap (λ a. with_rule a (place (codes "document"))) c.in_ok-command.ensures) c.with_place-2.ensures

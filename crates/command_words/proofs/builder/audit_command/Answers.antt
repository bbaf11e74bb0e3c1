use Rattle.std.proofs.Common.{◌∙◌, ap, ap₂, codes}
use Rattle.std.proofs.lemmas.Result.{IfOk-weaker}
use Rattle.clap.specs.Simple.{with_rule}
use Rattle.command_words.specs.Apps.{place, places, pair_option, option, flag, with_work}
use Rattle.command_words.proofs.builder.audit_command.Goals as goal

pub returns : goal.returns
returns c =
    let one = c.in_ok-command.ensures ∙ ap (λ a. with_rule a (place (codes "schema"))) c.top.ensures in
    let two = c.in_ok-command-2.ensures ∙ ap₂ with_rule one c.places.ensures.rule in
    let three = c.in_ok-command-3.ensures ∙ ap₂ with_rule two c.pair_option.ensures.rule in
    let four = c.in_ok-command-4.ensures ∙ ap (λ a. with_rule a (option (codes "unsized"))) three in
    let five = c.in_ok-command-5.ensures ∙ ap₂ with_rule four c.flag.ensures.rule in
    IfOk-weaker c.with_work.result _ _ (λ r h. h ∙ ap with_work five) c.with_work.ensures

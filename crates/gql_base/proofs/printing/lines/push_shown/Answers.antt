use Rattle.std.proofs.lemmas.Str.{IsUtf8-past_char}
use Rattle.gql_base.proofs.PrintingLaws.OneLine.{shown_step, shown_end}
use Rattle.gql_base.proofs.printing.lines.push_shown.Goals as goal

pub loop-character-preserved : goal.loop-character-preserved
loop-character-preserved c =
    let held = c.loop-character.invariant in
    let parts = c.in-Some.ensures.steps.0 in
    (IsUtf8-past_char _ _ c.in-Some.character held.0 parts, shown_step _ _ _ _ _ c.in-Some.character parts c.in_ok-push_character.ensures held.1)

pub returns : goal.returns
returns c = shown_end _ _ _ c.in-None.ensures.steps.0.0 c.loop-character.invariant.1

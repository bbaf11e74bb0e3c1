use Rattle.std.proofs.lemmas.List.{nil_from_length}
use Rattle.std.proofs.lemmas.Str.{IsUtf8-past_char, chars_past_char}
use Rattle.text_places.proofs.Walking.{character_taken, all_taken}
use Rattle.text_places.proofs.marks.characters_of.Goals as goal

pub loop-character-preserved : goal.loop-character-preserved
loop-character-preserved c =
    let held = c.loop-character.invariant in
    let parts = c.in-Some.ensures.steps.0 in
    (IsUtf8-past_char _ _ c.in-Some.character held.0 parts, character_taken c.loop-character.all.items _ _ _ _ c.in-Some.character (chars_past_char _ _ c.in-Some.character held.0 parts) c.in_ok-push.ensures.items held.1)

pub returns : goal.returns
returns c = all_taken _ _ _ (nil_from_length _ c.in-None.ensures.steps.0.0) c.loop-character.invariant.1

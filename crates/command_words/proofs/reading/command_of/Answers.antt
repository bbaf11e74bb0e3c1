-- The first word, and those behind it.
use Rattle.std.proofs.Common.{◌≡◌, ◌∙◌, sym, ap, ap₂, subst, List, ℕ, Bor, map, ◌∷◌, Result}
use Rattle.std.specs.Prelude.{IfOk}
use Rattle.std.proofs.lemmas.Result.{IfOk-weaker}
use Rattle.command_words.specs.declared.command.Command.{Command}
use Rattle.command_words.specs.declared.command.WordsFault.{WordsFault}
use Rattle.command_words.specs.Words.{AsksAfter, Asks, ServesWithinLimits, IsNoCommand}
use Rattle.command_words.proofs.Limits.{serves_within}
use Rattle.command_words.proofs.reading.command_of.Goals as goal

abbrev texts : List (Bor (List ℕ)) → List (List ℕ)
texts words = map (λ (s : Bor (List ℕ)). s.now) words

-- the words are the first and the others
whole : (words others : List (List ℕ)) (name text : List ℕ) (given slice : List (Bor (List ℕ))) → words ≡ name ∷ others → texts given ≡ others → slice ≡ given → text ≡ name → text ∷ texts slice ≡ words
whole words others name text given slice cut are is named = ap₂ (λ x xs. x ∷ xs) named (ap texts is ∙ are) ∙ sym cut

found : (result : Result Command WordsFault) (words others : List (List ℕ)) (name : List ℕ) → name ∷ others ≡ words → IfOk result (AsksAfter name others) → IfOk result (Asks words)
found result words others name same asks = subst (λ ws. IfOk result (Asks ws)) same asks

refused : (words others : List (List ℕ)) (name : List ℕ) → name ∷ others ≡ words → ((command : Command) → AsksAfter name others command → ⊥) → IsNoCommand words
refused words others name same none = subst IsNoCommand same none

pub returns-clause-asked : goal.returns-clause-asked
returns-clause-asked c =
    found c.named_command.result c.args.words.now (texts c.as_slice.result.now) c.as_str.result.now
    (whole c.args.words.now c.in-Some.others.now c.in-Some.name.now c.as_str.result.now c.in-Ok.texts.items c.as_slice.result.now c.in-Some.ensures.cases.0 c.in-Ok.ensures c.as_slice.ensures.value c.as_str.ensures)
    c.named_command.ensures.found

pub returns-clause-limits : goal.returns-clause-limits
returns-clause-limits c = IfOk-weaker c.named_command.result _ ServesWithinLimits (serves_within c.args.words.now) (returns-clause-asked c)

pub returns-clause-usage : goal.returns-clause-usage
returns-clause-usage c = λ failed.
    refused c.args.words.now (texts c.as_slice.result.now) c.as_str.result.now
    (whole c.args.words.now c.in-Some.others.now c.in-Some.name.now c.as_str.result.now c.in-Ok.texts.items c.as_slice.result.now c.in-Some.ensures.cases.0 c.in-Ok.ensures c.as_slice.ensures.value c.as_str.ensures)
    (c.named_command.ensures.usage failed)

use Rattle.std.proofs.Common.{◌≡◌, ◌++◌, List, ℕ, Bor, map, drop}
use Rattle.command_words.proofs.reading.texts_of.Given as goal

abbrev pub invariant-words : goal.invariant-words
invariant-words l = map (λ (s : Bor (List ℕ)). s.now) l.texts.items ++ drop l.word-index l.words ≡ l.words

use Rattle.std.proofs.Common.{◌≡◌, ◌++◌, List, ℕ, Bor, map, drop}
use Rattle.command_words.proofs.words.matches.copies_of.Given as goal

abbrev pub invariant-words : goal.invariant-words
invariant-words l = l.texts.items ++ map (λ (s : Bor (List ℕ)). s.now) (drop l.word-index l.words) ≡ map (λ (s : Bor (List ℕ)). s.now) l.words

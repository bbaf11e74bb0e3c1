use Rattle.std.proofs.Common.{◌≡◌, List, ℕ, Bor, map, drop}
use Rattle.std.specs.List.{list_all}
use Rattle.http_front.specs.Passed.{may_be_passed}
use Rattle.command_words.proofs.words.serving.may_all_be_passed.Given as goal

-- What is left answers as the whole.
abbrev pub invariant-names : goal.invariant-names
invariant-names l = list_all may_be_passed (map (λ (s : Bor (List ℕ)). s.now) (drop l.name-index l.names)) ≡ list_all may_be_passed (map (λ (s : Bor (List ℕ)). s.now) l.names)

use Rattle.std.proofs.Common.{◌≡◌, ◌++◌}
use Rattle.gateway_cli.specs.Words.{texts_in}
use Rattle.gateway_cli.proofs.words.words_after.Given as goal

-- What was pushed so far, and the texts that are still to be given, are those that were to be given at first.
abbrev pub invariant-loop-word : goal.invariant-loop-word
invariant-loop-word l = l.words.items ++ texts_in l.word-iterator ≡ texts_in l.initial.word-iterator

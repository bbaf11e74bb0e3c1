use Rattle.std.proofs.Common.{◌≤◌, sym, subst}
use Rattle.replay_scripts.specs.Lines.{lines_of}
use Rattle.gateway_replay.proofs.FreshAccounts.{as_many}
use Rattle.gateway_replay.proofs.laws.scripts_are_short.Goals as goal

pub returns : goal.returns
returns c = λ text steps script. subst (λ n. n ≤ 10000) (sym (as_many (lines_of text) steps script.spelled)) script.few

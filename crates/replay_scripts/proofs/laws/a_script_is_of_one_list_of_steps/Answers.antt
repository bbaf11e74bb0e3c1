use Rattle.replay_scripts.specs.Lines.{lines_of}
use Rattle.replay_scripts.proofs.ScriptLines.{same_steps}
use Rattle.replay_scripts.proofs.Either.{script_or_fault}
use Rattle.replay_scripts.proofs.OneAnswer.{no_fault, one_fault}
use Rattle.replay_scripts.proofs.laws.a_script_is_of_one_list_of_steps.Goals as goal

pub returns-clause-no_fault : goal.returns-clause-no_fault
returns-clause-no_fault c = λ text steps fault. no_fault (lines_of text) steps fault

pub returns-clause-one_script : goal.returns-clause-one_script
returns-clause-one_script c = λ text a b one two. same_steps (lines_of text) a b one.spelled two.spelled

pub returns-clause-one_fault : goal.returns-clause-one_fault
returns-clause-one_fault c = λ text. one_fault (lines_of text)

pub returns-clause-either : goal.returns-clause-either
returns-clause-either c = script_or_fault

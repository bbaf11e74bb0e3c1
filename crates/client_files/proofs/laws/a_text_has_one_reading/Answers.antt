use Rattle.client_files.specs.Lines.{lines_of}
use Rattle.client_files.proofs.OneReading.{windows_are_one, clients_are_one, one_fault, not_both}
use Rattle.client_files.proofs.SomeReading.{answered}
use Rattle.client_files.proofs.laws.a_text_has_one_reading.Goals as goal

pub returns-clause-some : goal.returns-clause-some
returns-clause-some c = λ text. answered (lines_of text)

pub returns-clause-one_window : goal.returns-clause-one_window
returns-clause-one_window c = λ text one other clients others file again. windows_are_one (lines_of text) one other clients others file again

pub returns-clause-same_clients : goal.returns-clause-same_clients
returns-clause-same_clients c = λ text one other clients others file again. clients_are_one (lines_of text) one other clients others file again

pub returns-clause-one_fault : goal.returns-clause-one_fault
returns-clause-one_fault c = λ text one other first second. one_fault (lines_of text) one other first second

pub returns-clause-not_both : goal.returns-clause-not_both
returns-clause-not_both c = λ text seconds clients fault file first. not_both (lines_of text) seconds clients fault file first

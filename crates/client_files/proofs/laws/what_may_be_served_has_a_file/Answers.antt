use Rattle.client_files.specs.Lines.{lines_of}
use Rattle.client_files.proofs.WrittenFiles.{written_is_read, read_may_be_served}
use Rattle.client_files.proofs.laws.what_may_be_served_has_a_file.Goals as goal

pub returns-clause-served : goal.returns-clause-served
returns-clause-served c = λ text seconds clients file. read_may_be_served (lines_of text) seconds clients file

pub returns-clause-written : goal.returns-clause-written
returns-clause-written c = written_is_read

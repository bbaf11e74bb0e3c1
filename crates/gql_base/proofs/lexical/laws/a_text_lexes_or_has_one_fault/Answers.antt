use Rattle.gql_base.proofs.LexicalLaws.OneDivision.{lexes_or_has_fault, no_fault, one_fault}
use Rattle.gql_base.proofs.LexicalLaws.TextFaults.{no_memory_fault}
use Rattle.gql_base.proofs.lexical.laws.a_text_lexes_or_has_one_fault.Goals as goal

pub returns-clause-either : goal.returns-clause-either
returns-clause-either c = lexes_or_has_fault

pub returns-clause-not_both : goal.returns-clause-not_both
returns-clause-not_both c = no_fault

pub returns-clause-one_fault : goal.returns-clause-one_fault
returns-clause-one_fault c = one_fault

pub returns-clause-memory : goal.returns-clause-memory
returns-clause-memory c = no_memory_fault

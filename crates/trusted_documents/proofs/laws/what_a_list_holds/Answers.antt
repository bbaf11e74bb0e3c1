use Rattle.trusted_documents.proofs.Entries.{held}
use Rattle.trusted_documents.proofs.laws.what_a_list_holds.Goals as goal

pub returns-clause-entries : goal.returns-clause-entries
returns-clause-entries c = held

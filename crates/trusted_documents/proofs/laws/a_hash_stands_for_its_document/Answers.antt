use Rattle.trusted_documents.proofs.Entries.{hash_held, one_held}
use Rattle.trusted_documents.proofs.laws.a_hash_stands_for_its_document.Goals as goal

pub returns-clause-hash : goal.returns-clause-hash
returns-clause-hash c = hash_held

pub returns-clause-one : goal.returns-clause-one
returns-clause-one c = one_held

use Rattle.trusted_documents.proofs.StandingBodies.{compact_of}
use Rattle.trusted_documents.proofs.filled_body.compact_body.Goals as goal

pub returns : goal.returns
returns c = compact_of c.in_ok-json.json c.args.document.now _ c.in_ok-json.ensures c.to_vec.result c.requires c.to_vec.ensures.text c.to_vec.ensures.compact c.to_vec.ensures.utf8 c.to_vec.ensures.order c.to_vec.ensures.reads_back

-- A request is prepared, so its operation breaks no rule, and stands in its document.
use Rattle.sent_documents.proofs.SentOperations.{operation_of}
use Rattle.sent_documents.proofs.laws.replies_read_by_the_plan_of_the_request.Goals as goal

pub returns : goal.returns
unfolding operation_of
returns c r p alias keeps free well t json answers says =
    c.replies_to_what_is_sent.ensures alias (operation_of r p alias free) t json record {
      keeps = keeps;
      kept = p.keeps.1;
      root = p.on_root;
      well = well;
    } answers says

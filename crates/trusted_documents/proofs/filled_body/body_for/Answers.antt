use Rattle.serde_json.specs.View.{view}
use Rattle.trusted_documents.proofs.StandingBodies.{standing_result}
use Rattle.trusted_documents.proofs.filled_body.body_for.Goals as goal

pub returns : goal.returns
returns c = standing_result c.args.document.now (view c.args.json) c.requires.object c.compact_body.result c.compact_body.ensures

use Rattle.std.proofs.Common.{sym}
use Rattle.acceptance.specs.Requests.{request_data}
use Rattle.acceptance.proofs.Picked.{picked_stands}
use Rattle.acceptance.proofs.accepting.place_of.Goals as goal

pub returns-in-Ok-clause-there : goal.returns-in-Ok-clause-there
returns-in-Ok-clause-there c = picked_stands (request_data c.args.request.now).name (request_data c.args.request.now).document c.in-Ok.place (sym c.in-Ok.ensures)

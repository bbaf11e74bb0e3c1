use Rattle.std.proofs.Common.{string_bytes}
use Rattle.cost_vectors.specs.Script.{first_requests}
use Rattle.cost_vectors.proofs.Steps.{one_request_more}
use Rattle.cost_vectors.proofs.script.script.Goals as goal

pub requests-init : goal.requests-init
unfolding first_requests
requests-init c = c.new-text.ensures.bytes

pub requests-preserved : goal.requests-preserved
requests-preserved c = one_request_more c.requests.number (string_bytes c.requests.text) (string_bytes c.write_begin.new.into) (string_bytes c.write_ends_behind.new.into)
    c.requests.invariant c.in_ok-write_begin.ensures c.in_ok-write_ends_behind.ensures

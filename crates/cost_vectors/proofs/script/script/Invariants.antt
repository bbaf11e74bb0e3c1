use Rattle.std.proofs.Common.{◌≡◌, string_bytes}
use Rattle.cost_vectors.specs.Script.{first_requests}
use Rattle.cost_vectors.proofs.script.script.Given as goal

-- The text is that of the first requests.
abbrev pub invariant-requests : goal.invariant-requests
invariant-requests l = string_bytes l.text ≡ first_requests l.number

use Rattle.std.proofs.Common.{map}
use Rattle.gateway_core.specs.Rules.{client_limit}
use Rattle.served_rows.proofs.Idle.{fresh_idle}
use Rattle.served_rows.proofs.gates.bare_gate.Goals as goal

pub returns-clause-idle : goal.returns-clause-idle
returns-clause-idle c = fresh_idle (map client_limit c.in_ok-window_seconds.field-0.clients.items) c.in_ok-gate.passes c.in_ok-gate.ensures.fresh

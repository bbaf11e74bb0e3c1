-- What an account has left is within the cap.
use Rattle.gateway_core.proofs.CappedAccounts.{gate_fits, known_to, left_within}
use Rattle.gateway_core.proofs.cells.PassesLedger.reserve.Goals as goal

pub returns-in-Short-clause-reserved : goal.returns-in-Short-clause-reserved
returns-in-Short-clause-reserved g c =
    let gate = c.args.gate.now in
    left_within c.reserve.new.passes gate.accounts c.in-Short.ensures.belong (gate_fits gate) c.args.self.now c.args.client c.args.window c.args.bound c.in-Short.left (known_to gate c.args.client c.requires.client) c.in-Short.ensures.call

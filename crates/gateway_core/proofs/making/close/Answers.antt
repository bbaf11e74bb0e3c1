-- Each client has an account, and what is settled there and carried into its window is within the cap.
use Rattle.std.proofs.Common.{All, subst, sym}
use Rattle.gateway_core.specs.Rules.{IsSettledWithin, IsCarriedWithin}
use Rattle.gateway_core.proofs.CappedAccounts.{gate_fits, settled_within, carried_within, accounts_paired}
use Rattle.gateway_core.proofs.making.close.Goals as goal

pub invariant_of-result : goal.invariant_of-result
invariant_of-result g c =
    let gate = c.args.gate in
    let accounts = c.close-accounts.ensures.accounts in
    record {
      paired = accounts_paired gate c.args.passes c.close-accounts.result c.requires.belong accounts;
      within = subst (All IsSettledWithin) (sym accounts) (settled_within c.args.passes gate.accounts c.requires.belong (gate_fits gate));
      carried = subst (All IsCarriedWithin) (sym accounts) (carried_within c.args.passes gate.accounts c.requires.belong (gate_fits gate));
    }

use Rattle.std.proofs.Common.{◌∙◌, ap}
use Rattle.account_core.specs.Machine.{held_in}
use Rattle.account_core.specs.History.{state_after, entries_by, grants_by}
use Rattle.account_core.proofs.AllowanceLaw.{keeps}
use Rattle.account_core.proofs.Callers.{open_grants-own}
use Rattle.account_core.proofs.OpenGrants.{in_order}
use Rattle.account_journal.specs.Journals.{limit_in}
use Rattle.account_journal.proofs.laws.keeps_allowances.Goals as goal

pub returns-clause-keeps : goal.returns-clause-keeps
returns-clause-keeps g c j hs client follows there = keeps (limit_in j client) (entries_by client hs) (follows.each client there).0

pub returns-clause-idle : goal.returns-clause-idle
returns-clause-idle g c j hs client follows there none =
    let s = state_after (limit_in j client) (entries_by client hs) in
    let each = follows.each client there in
    ap (λ a. a.held) each.1.0 ∙ ap (held_in s.window) ((in_order (limit_in j client) (entries_by client hs) each.0).listed ∙ open_grants-own client hs ∙ ap (grants_by client) none)

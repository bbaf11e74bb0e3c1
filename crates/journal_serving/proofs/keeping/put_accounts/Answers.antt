-- An account more was put.
use Rattle.std.proofs.Common.{◌<◌, ◌++◌, ◌∷◌, [], ◌∙◌, ap, sym, subst, take, length, arith, List, All}
use Rattle.std.proofs.lemmas.List.{take_more, take_all}
use Rattle.account_core.specs.declared.Account.{Account}
use Rattle.account_journal.specs.Histories.{no_account}
use Rattle.gateway_journal.specs.PassedOn.{IsSettledWithin, IsCarriedWithin}
use Rattle.journal_serving.proofs.CappedAccounts.{all_settled, all_carried}
use Rattle.journal_serving.proofs.keeping.put_accounts.Goals as goal

pub clients-preserved : goal.clients-preserved
clients-preserved g c =
    let accounts = c.args.journal.now.accounts.items in
    let low : c.clients.client < length accounts = omega (arith, c.clients-test.true, c.clients-client-end.ensures, c.requires.sound.clients) in (
      c.push_reserved.ensures.items ∙ (ap (λ (l : List Account). l ++ c.account.result ∷ []) c.clients.invariant.0
          ∙ (ap (λ (a : Account). take c.clients.client accounts ++ a ∷ []) c.account.ensures ∙ sym (take_more accounts c.clients.client no_account low))),
      omega (arith, c.clients.invariant.1, c.push_reserved.ensures.capacity),
    )

pub returns-clause-items : goal.returns-clause-items
returns-clause-items g c = c.clients.invariant.0 ∙ take_all c.clients.client c.args.journal.now.accounts.items (omega (arith, c.clients-test.false, c.clients-client-end.ensures, c.requires.sound.clients))

pub returns-clause-settled : goal.returns-clause-settled
returns-clause-settled g c = subst (λ (l : List Account). All IsSettledWithin l) (sym (returns-clause-items g c)) (all_settled c.args.journal.now c.requires.sound)

pub returns-clause-carried : goal.returns-clause-carried
returns-clause-carried g c = subst (λ (l : List Account). All IsCarriedWithin l) (sym (returns-clause-items g c)) (all_carried c.args.journal.now c.requires.sound)

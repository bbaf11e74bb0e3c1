-- Entries that are steps one after the other, from a state on.
use Rattle.std.proofs.Common.{List, [], ◌∷◌, ◌++◌, refl, sym, subst, append_assoc}
use Rattle.std.proofs.lemmas.List.{append-nil}
use Rattle.account_core.specs.declared.Account.{Account}
use Rattle.account_core.specs.declared.Limit.{Limit}
use Rattle.account_core.specs.Machine.{State, Entry, account_of, state_past}
use Rattle.account_core.specs.History.{state_from, state_after, AreSteps, NumbersRise, IsLegal}
use Rattle.account_core.specs.Numbers.{StandsFor}
use Rattle.account_core.proofs.Histories.{state_after-push, legal-push}
use Rattle.account_core.proofs.Callers.{none_later-call}

pub steps-append : (limit : Limit) (s : State) (xs ys : List Entry) → AreSteps limit s xs → AreSteps limit (state_from limit s xs) ys → AreSteps limit s (xs ++ ys)
steps-append limit s [] ys here then = then
steps-append limit s (x ∷ xs) ys here then = (here.0, steps-append limit (state_past limit s x) xs ys here.1 then)

-- where the numbers stand for the first state, those of the last stand for it
pub steps-stand : (limit : Limit) (s : State) (entries : List Entry) (a : Account) → StandsFor a s → AreSteps limit s entries
    → StandsFor (account_of (state_from limit s entries)) (state_from limit s entries)
steps-stand limit s [] a stands steps = (refl, stands.1)
steps-stand limit s (e ∷ es) a stands steps =
    steps-stand limit (state_past limit s e) es (account_of (state_past limit s e)) (refl, none_later-call limit s e.caller e.number e.call e.reply steps.0 stands.1) steps.1

-- from the state after a legal history, with numbers that rise, they make a longer one
pub steps-legal : (limit : Limit) (entries h : List Entry) → IsLegal limit h → AreSteps limit (state_after limit h) entries → NumbersRise h entries → IsLegal limit (h ++ entries)
steps-legal limit [] h legal steps rise = subst (IsLegal limit) (sym (append-nil h)) legal
steps-legal limit (e ∷ es) h legal steps rise =
    subst (IsLegal limit) (append_assoc h (e ∷ []) es)
    (steps-legal limit es (h ++ e ∷ []) (legal-push limit h e legal (steps.0, rise.0)) (subst (λ s. AreSteps limit s es) (sym (state_after-push limit h e)) steps.1) rise.1)

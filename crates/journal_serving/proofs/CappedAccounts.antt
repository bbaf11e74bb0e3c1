-- What is settled in the accounts of a journal, and carried into their windows, is within the cap.
use Rattle.std.proofs.Common.{◌≡◌, ◌<◌, Bool, true, false, length, refl, ap, subst, arith, All}
use Rattle.std.proofs.lemmas.List.{get_or_default}
use Rattle.cost_num.specs.declared.Cost.{Cost}
use Rattle.account_core.specs.declared.Account.{Account}
use Rattle.account_core.specs.declared.Limit.{Limit}
use Rattle.account_core.specs.Numbers.{FitsCap, KeepsLimit}
use Rattle.account_journal.specs.declared.journal.Journal.{Journal}
use Rattle.account_journal.specs.Histories.{no_account}
use Rattle.account_journal.specs.Journals.{IsSound, limit_in, account_in}
use Rattle.gateway_journal.specs.PassedOn.{greatest, IsSettledWithin, IsCarriedWithin}

settled_capped : (limit : Limit) (a : Account) → FitsCap greatest limit → KeepsLimit limit a → IsSettledWithin a
settled_capped limit a fits keeps = by_carry limit.carry refl
  where
    by_carry : (carries : Bool) → limit.carry ≡ carries → IsSettledWithin a
    by_carry true carry =
        let two = fits.two carry in
        record { types = omega (arith, keeps.used.types, keeps.carried.types, two.types); fields = omega (arith, keeps.used.fields, keeps.carried.fields, two.fields) }
    by_carry false carry =
        let none = keeps.plain carry in
        record { types = omega (arith, keeps.used.types, ap (λ (c : Cost). c.types) none, fits.one.types); fields = omega (arith, keeps.used.fields, ap (λ (c : Cost). c.fields) none, fits.one.fields) }

carried_capped : (limit : Limit) (a : Account) → FitsCap greatest limit → KeepsLimit limit a → IsCarriedWithin a
carried_capped limit a fits keeps = record { types = omega (arith, keeps.carried.types, fits.one.types); fields = omega (arith, keeps.carried.fields, fits.one.fields) }

module _ {J : Type 0} (j : Journal J) (sound : IsSound j) where
  of_each : (P : Account → Type 0) → ((limit : Limit) (a : Account) → FitsCap greatest limit → KeepsLimit limit a → P a) → All P j.accounts.items
  of_each P each = λ k d low. (
      let known : k < length j.limits.items = subst (λ n. k < n) sound.clients low in
      subst P (get_or_default j.accounts.items k no_account d low) (each (limit_in j k) (account_in j k) (sound.limits_are k known) (sound.keep k known)))

  pub all_settled : All IsSettledWithin j.accounts.items
  all_settled = of_each IsSettledWithin settled_capped

  pub all_carried : All IsCarriedWithin j.accounts.items
  all_carried = of_each IsCarriedWithin carried_capped

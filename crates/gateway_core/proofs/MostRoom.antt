-- No window of an account has room for more than an allowance, or two where it carries over.
use Rattle.std.proofs.Common.{◌≡◌, ℕ, ◌+◌, Bool, true, false, nat_eq, cond, refl, sym, subst, arith, List}
use Rattle.std.proofs.lemmas.Bool.{cond_both, and_from, le-leb}
use Rattle.cost_num.specs.declared.Cost.{Cost}
use Rattle.cost_num.specs.Within.{Within}
use Rattle.account_core.specs.declared.Account.{Account}
use Rattle.account_core.specs.declared.Limit.{Limit}
use Rattle.account_core.specs.Costs.{nothing, together, is_within}
use Rattle.account_core.specs.Machine.{Entry, account_of, used_of, room, surplus, HasRoom}
use Rattle.account_core.specs.History.{state_after, IsLegal}
use Rattle.account_core.specs.Numbers.{KeepsLimit}
use Rattle.account_core.proofs.Callers.{numbers_within}
use Rattle.gateway_core.specs.Rules.{most_of}

module _ (limit : Limit) (a : Account) (keeps : KeepsLimit limit a) (at : ℕ) where
  over : Cost
  over = surplus limit a.carried (used_of a)

  two : (carried : Cost) → Within limit.allowance carried → Within (together limit.allowance limit.allowance) (together limit.allowance carried)
  two carried within = record { types = omega (arith, within.types); fields = omega (arith, within.fields) }

  one : Within (together limit.allowance nothing) (together limit.allowance nothing)
  one = record { types = omega arith; fields = omega arith }

  by_carry : (carries : Bool) → limit.carry ≡ carries
      → Within (together limit.allowance (cond carries limit.allowance nothing)) (together limit.allowance (cond (nat_eq at a.window) a.carried (cond carries (cond (nat_eq at (a.window + 1)) over limit.allowance) nothing)))
  unfolding over
  by_carry true carry =
      let P : Cost → Type 0 = λ c. Within (together limit.allowance limit.allowance) (together limit.allowance c) in
      cond_both (nat_eq at a.window) a.carried (cond (nat_eq at (a.window + 1)) over limit.allowance) P
      (λ here. two a.carried keeps.carried)
      (λ elsewhere. cond_both (nat_eq at (a.window + 1)) over limit.allowance P
      (λ next. two over record { types = omega arith; fields = omega arith })
      (λ far. two limit.allowance record { types = omega arith; fields = omega arith }))
  by_carry false carry =
      let P : Cost → Type 0 = λ c. Within (together limit.allowance nothing) (together limit.allowance c) in
      cond_both (nat_eq at a.window) a.carried nothing P (λ here. subst P (sym (keeps.plain carry)) one) (λ elsewhere. one)

  most_room : Within (most_of limit) (room limit a at)
  unfolding over
  most_room = by_carry limit.carry refl

pub most_granted : (limit : Limit) (history : List Entry) (window : ℕ) (bound : Cost) → IsLegal limit history → HasRoom limit (state_after limit history) window bound → is_within (most_of limit) bound ≡ true
most_granted limit history window bound legal has_room =
    let s = state_after limit history in
    let most = most_room limit (account_of s) (numbers_within limit history legal) window in
    and_from _ _ (le-leb bound.types (most_of limit).types (omega (arith, has_room.types, most.types))) (le-leb bound.fields (most_of limit).fields (omega (arith, has_room.fields, most.fields)))

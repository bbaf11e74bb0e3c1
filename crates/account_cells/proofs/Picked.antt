-- The same steps, for what a caller picked.
use Rattle.std.proofs.Common.{◌≡◌, ℕ, List, true, false, true≢false, sym, subst, nat_eq, if◌then◌else◌, Result, Ok, Err}
use Rattle.std.specs.Prelude.{MatchResult}
use Rattle.std.specs.Result.{is_ok}
use lib.Pointwise.{pointwise}
use Rattle.crossbeam_utils.specs.Register.{Turns}
use Rattle.cost_num.specs.declared.Cost.{Cost}
use Rattle.cost_num.specs.Within.{Within}
use Rattle.account_core.specs.Machine.{Call, reservation, settlement, CallReply, granted, done}
use Rattle.account_core.specs.Numbers.{reservation_reply, reserved_account, settled_account}
use Rattle.account_cells.specs.Views.{View}
use Rattle.account_cells.specs.Rule.{words_of, account_from, KeepsRule}
use Rattle.account_cells.specs.Outcomes.{LooksFor, Exchanges, SettlesLate, Owes, IsNew}
use Rattle.account_cells.proofs.Steps.{looks_or_refuses, grants_by_exchange, settles_by_exchange, settles_by_look}

pub looks_picked : (pass : ℕ) (v : View) (number' window' : ℕ) (bound' : Cost) (number : ℕ) → number' ≡ number → v.live ≡ true → IsNew v number → Turns KeepsRule pass v (λ x. x) (LooksFor number' window' bound')
looks_picked pass v number' window' bound' number is live new = looks_or_refuses pass v number' window' bound' live (subst (IsNew v) (sym is) new)

pub grants_picked : (pass : ℕ) (v : View) (number window at : ℕ) (bound : Cost) (found next : List ℕ) (number' : ℕ) (call' : Call) (reply' : CallReply) (found' : List ℕ)
    → number' ≡ number → call' ≡ reservation window bound → reply' ≡ granted at → found' ≡ found → next ≡ words_of (reserved_account v.limit (account_from found) window bound)
    → v.live ≡ true → IsNew v number → reservation_reply v.limit (account_from found) window bound ≡ granted at
    → Turns KeepsRule pass v (λ x. if pointwise nat_eq x found then next else x) (Exchanges call' reply' number' found')
grants_picked pass v number window at bound found next number' call' reply' found' n c a f m live new is =
    let made = grants_by_exchange pass v number window at bound found live new is in
    let one = subst (λ l. Turns KeepsRule pass v (λ x. if pointwise nat_eq x found then l else x) (Exchanges (reservation window bound) (granted at) number found)) (sym m) made in
    let two = subst (λ l. Turns KeepsRule pass v (λ x. if pointwise nat_eq x found then next else x) (Exchanges (reservation window bound) (granted at) number l)) (sym f) one in
    let three = subst (λ b. Turns KeepsRule pass v (λ x. if pointwise nat_eq x found then next else x) (Exchanges (reservation window bound) b number found')) (sym a) two in
    let four = subst (λ b. Turns KeepsRule pass v (λ x. if pointwise nat_eq x found then next else x) (Exchanges b reply' number found')) (sym c) three in
    subst (λ k. Turns KeepsRule pass v (λ x. if pointwise nat_eq x found then next else x) (Exchanges call' reply' k found')) (sym n) four

pub settles_picked : (pass : ℕ) (v : View) (number of window : ℕ) (bound measured : Cost) (found next : List ℕ) (number' : ℕ) (call' : Call) (reply' : CallReply) (found' : List ℕ)
    → number' ≡ number → call' ≡ settlement of window bound measured → reply' ≡ done → found' ≡ found → next ≡ words_of (settled_account (account_from found) window bound measured)
    → v.live ≡ true → IsNew v number → Owes v of window bound → Within bound measured
    → Turns KeepsRule pass v (λ x. if pointwise nat_eq x found then next else x) (Exchanges call' reply' number' found')
settles_picked pass v number of window bound measured found next number' call' reply' found' n c a f m live new owes small =
    let made = settles_by_exchange pass v number of window bound measured found live new owes small in
    let one = subst (λ l. Turns KeepsRule pass v (λ x. if pointwise nat_eq x found then l else x) (Exchanges (settlement of window bound measured) done number found)) (sym m) made in
    let two = subst (λ l. Turns KeepsRule pass v (λ x. if pointwise nat_eq x found then next else x) (Exchanges (settlement of window bound measured) done number l)) (sym f) one in
    let three = subst (λ b. Turns KeepsRule pass v (λ x. if pointwise nat_eq x found then next else x) (Exchanges (settlement of window bound measured) b number found')) (sym a) two in
    let four = subst (λ b. Turns KeepsRule pass v (λ x. if pointwise nat_eq x found then next else x) (Exchanges b reply' number found')) (sym c) three in
    subst (λ k. Turns KeepsRule pass v (λ x. if pointwise nat_eq x found then next else x) (Exchanges call' reply' k found')) (sym n) four

pub settles_late_picked : (pass : ℕ) (v : View) (number of window : ℕ) (bound measured : Cost) (number' of' window' : ℕ) (bound' measured' : Cost)
    → number' ≡ number → of' ≡ of → window' ≡ window → bound' ≡ bound → measured' ≡ measured → v.live ≡ true → IsNew v number → Owes v of window bound → Within bound measured
    → Turns KeepsRule pass v (λ x. x) (SettlesLate number' of' window' bound' measured')
settles_late_picked pass v number of window bound measured number' of' window' bound' measured' n o w b m live new owes small =
    let one = subst (λ k. Turns KeepsRule pass v (λ x. x) (SettlesLate k of window bound measured)) (sym n) (settles_by_look pass v number of window bound measured live new owes small) in
    let two = subst (λ k. Turns KeepsRule pass v (λ x. x) (SettlesLate number' k window bound measured)) (sym o) one in
    let three = subst (λ k. Turns KeepsRule pass v (λ x. x) (SettlesLate number' of' k bound measured)) (sym w) two in
    let four = subst (λ k. Turns KeepsRule pass v (λ x. x) (SettlesLate number' of' window' k measured)) (sym b) three in
    subst (λ k. Turns KeepsRule pass v (λ x. x) (SettlesLate number' of' window' bound' k)) (sym m) four

-- what holds where an exchange was lost
pub lost_means : (r : Result (List ℕ) (List ℕ)) (P Q : List ℕ → Type 0) (R : Type 0) → is_ok r ≡ false → MatchResult r P Q → ((x : List ℕ) → Q x → R) → R
lost_means (Ok x) P Q R is m k = absurd (true≢false is)
lost_means (Err x) P Q R is m k = k x m

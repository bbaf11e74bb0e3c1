-- A replay through the first passes to fresh accounts.
use Rattle.std.proofs.Common.{◌≡◌, ℕ, List, [], ◌∷◌, ◌++◌, refl, sym, ap, ◌∙◌, subst, arith, length, get_or}
use Prim.Native.Nat.{suc}
use Rattle.std.proofs.lemmas.List.{length-append}
use Rattle.account_core.specs.declared.Limit.{Limit}
use Rattle.account_core.specs.History.{IsLegal}
use Rattle.account_cells.specs.Views.{View, first_view}
use Rattle.account_shared.specs.Views.{PassesView, client_at}
use Rattle.account_shared.specs.Gains.{ClientCall, entries_for, GoesOn}
use Rattle.replay_scripts.specs.Steps.{StepData}
use Rattle.replay_scripts.specs.Scripts.{AreStepLines}
use Rattle.gateway_core.specs.Rules.{Rules, client_limit}
pub use Rattle.gateway_core.proofs.FreshAccounts.{fresh_at, fresh_count, fresh_idle}
use Rattle.gateway_replay.specs.declared.replayed.Replayed.{Replayed}
use Rattle.gateway_replay.specs.Replays.{all_calls, IsReportOf, Replays, AreFresh, IsOverFresh}

no_entry_is_legal : (limit : Limit) → IsLegal limit []
no_entry_is_legal limit front rest e is = absurd (omega (arith, ap length is, length-append front (e ∷ rest)))

-- a client that goes on from a first view, with nobody else's entries between
goes_on_alone : (limit : Limit) (before now : View) (name made client : ℕ) (calls : List ClientCall) → name ≡ 0 → made ≡ 0 → before ≡ first_view limit → GoesOn name before now (entries_for client name made calls) → IsLegal limit (entries_for client 0 0 calls)
goes_on_alone limit before now name made client calls unnamed unmade fresh g =
    subst (λ n. IsLegal limit (entries_for client n 0 calls)) unnamed (subst (λ m. IsLegal limit (entries_for client name m calls)) unmade mine)
  where
    seen : now.seen ≡ entries_for client name made calls
    seen = g.alone unnamed (ap (λ (v : View). v.splits) fresh) ∙ ap (λ (v : View). v.seen ++ entries_for client name made calls) fresh

    legal : IsLegal now.limit now.seen
    legal = g.legal (subst (λ (v : View). IsLegal v.limit v.seen) (sym fresh) (no_entry_is_legal limit))

    mine : IsLegal limit (entries_for client name made calls)
    mine = subst (λ l. IsLegal l (entries_for client name made calls)) (g.limit ∙ ap (λ (v : View). v.limit) fresh) (subst (IsLegal now.limit) seen legal)

pub over_fresh : (rules : Rules) (before now : PassesView) (script : List StepData) (report : Replayed) → AreFresh rules before → (replay : Replays rules before script report now) → IsOverFresh replay
over_fresh rules before now script report fresh replay = (
  record {
    turns = replay.turns;
    is_report = subst (λ made. IsReportOf rules made script replay.turns report) fresh.made replay.is_report;
    legal = λ client d low. goes_on_alone (client_limit (get_or rules.clients client d)) (client_at before client) (client_at now client) before.label.name before.made client (all_calls rules replay.turns)
        (ap (λ label. label.name) fresh.label) fresh.made (fresh_at rules before client d fresh low) (replay.calls.clients client);
  },
  refl,
)

-- lines that spell steps are as many as the steps
pub as_many : (lines : List (List ℕ)) (steps : List StepData) → AreStepLines lines steps → length steps ≡ length lines
as_many [] [] are = refl
as_many (line ∷ lines) (step ∷ steps) are = ap suc (as_many lines steps are.1)
as_many [] (step ∷ steps) are = absurd are
as_many (line ∷ lines) [] are = absurd are

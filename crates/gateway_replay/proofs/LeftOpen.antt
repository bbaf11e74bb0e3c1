-- What is left open at the end is settled.
use Rattle.std.proofs.Common.{◌≡◌, ◌<◌, ◌≤◌, List, [], ◌∷◌, ◌++◌, Bool, true, sym, ap, ◌∙◌, subst, arith, length, map, append_assoc, append-nil}
use Rattle.std.proofs.lemmas.List.{map_push, length-append, length-map}
use Rattle.account_shared.specs.Views.{PassesView}
use Rattle.account_shared.specs.Gains.{Gains}
use Rattle.gateway_core.specs.Grants.{IsOpenGrant}
use Rattle.gateway_replay.specs.declared.opened.Open.{Open}
use Rattle.gateway_replay.specs.declared.replayed.Replayed.{Replayed}
use Rattle.gateway_replay.specs.Turns.{OpenRequest, abandoning}
use Rattle.gateway_replay.specs.Lines.{line_of_abandoned}
use Rattle.gateway_replay.specs.Stretches.{request_of, requests_of, HasRoom, AddsLine, AddsLines, JustOpen, Abandons}
use Rattle.gateway_replay.proofs.OpenGrants.{open_just, just_settled}
use Rattle.gateway_replay.proofs.MoreLines.{adds_one, adds_none, adds_then}
use Rattle.gateway_replay.proofs.MoreTurns.{GainThen}

pub abandons_none : (p : PassesView) (all rest : List OpenRequest) (report : Replayed) (told : Bool) → Gains p p [] → all ≡ rest → JustOpen p rest → (told ≡ true → HasRoom report) → Abandons p p all rest report report told told
abandons_none p all rest report told none is just room = record {
  ended = [];
  whole = is;
  calls = none;
  just = just;
  told_then = λ h. h;
  lines = λ h. adds_none report;
  room = room;
}

pub abandons_more : GainThen → (p q t : PassesView) (all rest left : List OpenRequest) (r : OpenRequest) (old mid new : Replayed) (told_before told still : Bool) → rest ≡ r ∷ left → Abandons p q all rest old mid told_before told
    → Gains q t (abandoning r ∷ []) → (still ≡ true → told ≡ true) → (still ≡ true → AddsLine (line_of_abandoned r) mid new) → (still ≡ true → HasRoom new) → Abandons p t all left old new told_before still
abandons_more then p q t all rest left r old mid new told_before told still is a call told_then line room = record {
  ended = a.ended ++ r ∷ [];
  whole = a.whole ∙ (ap (λ l. a.ended ++ l) is ∙ sym (append_assoc a.ended (r ∷ []) left));
  calls = subst (Gains p t) (sym (map_push abandoning a.ended r)) (then p q t (map abandoning a.ended) (abandoning r ∷ []) a.calls call);
  just = just_settled q t [] left r r.grant.ticket.bound call (subst (JustOpen q) is a.just);
  told_then = λ h. a.told_then (told_then h);
  lines = λ h. subst (λ l. AddsLines l old new) (sym (map_push line_of_abandoned a.ended r))
      (adds_then (map line_of_abandoned a.ended) (line_of_abandoned r ∷ []) old mid new (a.lines (told_then h)) (adds_one (line_of_abandoned r) mid new (line h)));
  room = room;
}

-- the next one is open, and there is room for its settlement
pub next_open : (q : PassesView) (rest left : List OpenRequest) (r : OpenRequest) → rest ≡ r ∷ left → JustOpen q rest → IsOpenGrant q r.grant
next_open q rest left r is just = open_just q [] left r (subst (JustOpen q) is just)

pub few_made : (p q : PassesView) (opens : List Open) (rest : List OpenRequest) (old new : Replayed) (told_before told : Bool) → Abandons p q (requests_of opens) rest old new told_before told → length opens ≤ 10000
    → p.made < 4611686018427387904 → q.made < 9223372036854775808
few_made p q opens rest old new told_before told a few low =
    let made = a.calls.made in
    let ended = length-map a.ended abandoning in
    let whole = ap length a.whole in
    let both = length-append a.ended rest in
    let all = length-map opens request_of in
    omega (arith, made, ended, whole, both, all, few, low)

-- at the end all are settled
pub all_settled : (p q : PassesView) (all rest : List OpenRequest) (old new : Replayed) (told_before told : Bool) → Abandons p q all rest old new told_before told → rest ≡ [] → Gains p q (map abandoning all)
all_settled p q all rest old new told_before told a is = subst (λ l. Gains p q (map abandoning l)) (sym (a.whole ∙ (ap (λ l. a.ended ++ l) is ∙ append-nil a.ended))) a.calls

pub all_told : (p q : PassesView) (all rest : List OpenRequest) (old new : Replayed) (told_before told : Bool) → Abandons p q all rest old new told_before told → rest ≡ [] → told ≡ true → AddsLines (map line_of_abandoned all) old new
all_told p q all rest old new told_before told a is h = subst (λ l. AddsLines (map line_of_abandoned l) old new) (sym (a.whole ∙ (ap (λ l. a.ended ++ l) is ∙ append-nil a.ended))) (a.lines h)

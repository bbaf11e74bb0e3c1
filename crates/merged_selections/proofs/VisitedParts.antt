-- Visits one after another, and those below a node.
use Rattle.std.proofs.Common.{◌≡◌, ℕ, zero, suc, List, [], ◌∷◌, ◌++◌, map, take, length, ltb, Bool, true, false, Option, Some, None, refl, sym, ap, ◌∙◌, subst, arith, ◌<◌, ⊎_elim}
use Rattle.std.proofs.lemmas.Bool.{cases_Bool, ltb-true, lt-ltb, ltb_from_iff}
use Rattle.cost_directives.proofs.FirstsFound.{never}
use Rattle.schema_rules.specs.First.{or_else, first_of}
use Rattle.plan_model.specs.Visits.{NodeFault, too_deep, Visit, visit_of, under_key, visits_of, too_deep_at, placed, fault_at, PlacedFault, faulty, answer_by, answer_of}
use Rattle.merged_selections.specs.declared.stop.Stop.{Stop}
use Rattle.merged_selections.specs.declared.stop.Stop.TheVariants.{At, TooLarge, Memory}
use Rattle.std.specs.Prelude.{codes}
use Rattle.merged_selections.specs.declared.fault.PlanFault.{PlanFault}
use Rattle.merged_selections.specs.Faults.{path_text, IsTold}
use Rattle.merged_selections.specs.NodeTests.{fault_told, IsThere}
use Rattle.merged_selections.specs.Outcomes.{Outcome, has_left, at_fault as faulty_at, used_up, unless_fault, outcome, answer_from, under_outcome, IsStopAt, IsStop}

abbrev and_on : Outcome → (ℕ → Outcome) → Outcome
and_on (has_left left) g = g left
and_on (faulty_at fault) g = faulty_at fault
and_on used_up g = used_up

unless_on : (path : List (List ℕ)) (o : Option NodeFault) (a b : Outcome) (g : ℕ → Outcome) → a ≡ and_on b g → unless_fault path o a ≡ and_on (unless_fault path o b) g
unless_on path None a b g e = e
unless_on path (Some fault) a b g e = refl

outcome_of_both : (n : ℕ) (vs us : List Visit) → outcome n (vs ++ us) ≡ and_on (outcome n vs) (λ m. outcome m us)
unfolding outcome
outcome_of_both n [] us = refl
outcome_of_both zero (v ∷ vs) us = refl
outcome_of_both (suc n) (v ∷ vs) us = unless_on v.path v.fault (outcome n (vs ++ us)) (outcome n vs) (λ m. outcome m us) (outcome_of_both n vs us)

unless_under : (key : List ℕ) (path : List (List ℕ)) (o : Option NodeFault) (a b : Outcome) → a ≡ under_outcome key b → unless_fault (key ∷ path) o a ≡ under_outcome key (unless_fault path o b)
unless_under key path None a b e = e
unless_under key path (Some fault) a b e = refl

outcome_under : (key : List ℕ) (n : ℕ) (vs : List Visit) → outcome n (map (under_key key) vs) ≡ under_outcome key (outcome n vs)
unfolding outcome
outcome_under key n [] = refl
outcome_under key zero (v ∷ vs) = refl
outcome_under key (suc n) (v ∷ vs) = unless_under key v.path v.fault (outcome n (map (under_key key) vs)) (outcome n vs) (outcome_under key n vs)

pub goes_on : (n m : ℕ) (vs us : List Visit) → outcome n vs ≡ has_left m → outcome n (vs ++ us) ≡ outcome m us
goes_on n m vs us h = outcome_of_both n vs us ∙ ap (λ o. and_on o (λ k. outcome k us)) h

stays_at : (path : List ℕ) (told : Option NodeFault) (n : ℕ) (vs us : List Visit) → IsStopAt path told (outcome n vs) → IsStopAt path told (outcome n (vs ++ us))
stays_at path None n vs us h = tt
stays_at path (Some fault) n vs us h = (h.0, h.1, outcome_of_both n vs us ∙ ap (λ o. and_on o (λ k. outcome k us)) h.2)

-- where building stops at the first visits, it stops at all
pub stays_stopped : (stop : Stop) (n : ℕ) (vs us : List Visit) → IsStop stop (outcome n vs) → IsStop stop (outcome n (vs ++ us))
stays_stopped (At path why) n vs us h = stays_at path (fault_told why) n vs us h
stays_stopped TooLarge n vs us h = outcome_of_both n vs us ∙ ap (λ o. and_on o (λ k. outcome k us)) h
stays_stopped Memory n vs us h = tt

pub same_stop : (stop : Stop) (o p : Outcome) → o ≡ p → IsStop stop o → IsStop stop p
same_stop stop o p is h = subst (λ x. IsStop stop x) is h

pub none_visited : (n : ℕ) → outcome n [] ≡ has_left n
unfolding outcome
none_visited n = refl

-- ---- one node

of_none_left : (v : Visit) (vs : List Visit) → outcome 0 (v ∷ vs) ≡ used_up
unfolding outcome
of_none_left v vs = refl

pub node_past_limit : (key : List ℕ) (o : Option NodeFault) (below : List Visit) → outcome 0 (visits_of key o below) ≡ used_up
node_past_limit key None below = of_none_left (visit_of key None) (map (under_key key) below)
node_past_limit key (Some fault) below = of_none_left (visit_of key (Some fault)) []

pub deep_past_limit : (key : List ℕ) → outcome 0 (too_deep_at key ∷ []) ≡ used_up
deep_past_limit key = of_none_left (too_deep_at key) []

pub deep_outcome : (n : ℕ) (key : List ℕ) → outcome (suc n) (too_deep_at key ∷ []) ≡ unless_fault (key ∷ []) (Some too_deep) used_up
unfolding outcome
deep_outcome n key = refl

pub node_outcome : (n : ℕ) (key : List ℕ) (o : Option NodeFault) (below : List Visit) → outcome (suc n) (visits_of key o below) ≡ unless_fault (key ∷ []) o (under_outcome key (outcome n below))
unfolding outcome
node_outcome n key None below = outcome_under key n below
node_outcome n key (Some fault) below = refl

-- ---- the answer of an outcome

answer_or : (path : List (List ℕ)) (o : Option NodeFault) (larger : Bool) (first : Option PlacedFault) (a : Outcome) → answer_by larger first ≡ answer_from a → answer_by larger (or_else (placed path o) first) ≡ answer_from (unless_fault path o a)
answer_or path None larger first a e = e
answer_or path (Some fault) larger first a e = refl

less_by_one : (a b : ℕ) → ltb (suc a) (suc b) ≡ ltb a b
less_by_one a b = sym (ltb_from_iff {b = ltb a b} {m = suc a} {n = suc b} ((λ e. let h : a < b = ltb-true a b e in omega arith), (λ h. lt-ltb a b (omega arith))))

not_less_than_none : (n : ℕ) → ltb n 0 ≡ false
not_less_than_none n = ⊎_elim (λ (e : ltb n 0 ≡ true). absurd (never n (ltb-true n 0 e))) (λ (e : ltb n 0 ≡ false). e) (cases_Bool (ltb n 0))

pub answer_of_outcome : (n : ℕ) (vs : List Visit) → answer_of n vs ≡ answer_from (outcome n vs)
unfolding outcome
answer_of_outcome zero [] = ap (λ b. answer_by b None) (not_less_than_none zero)
answer_of_outcome (suc n) [] = ap (λ b. answer_by b None) (not_less_than_none (suc n))
answer_of_outcome zero (v ∷ vs) = ap (λ b. answer_by b None) (lt-ltb zero (suc (length vs)) (omega arith))
answer_of_outcome (suc n) (v ∷ vs) = ap (λ b. answer_by b (or_else (fault_at v) (first_of fault_at (take n vs)))) (less_by_one n (length vs)) ∙ answer_or v.path v.fault (ltb n (length vs)) (first_of fault_at (take n vs)) (outcome n vs) (answer_of_outcome n vs)

-- ---- the fault of a stop

pub stop_at_root : (path text : List ℕ) (told : Option NodeFault) (o : Outcome) (fault : PlanFault) → IsStopAt path told o → text ≡ codes "data" ++ path
    → ((keys : List (List ℕ)) (f : NodeFault) → text ≡ path_text keys → IsThere told (Some f) → IsTold (faulty (keys, f)) fault) → (told ≡ None → IsTold (answer_from o) fault) → IsTold (answer_from o) fault
unfolding path_text
stop_at_root path text None o fault h is tells memory = memory refl
stop_at_root path text (Some f) o fault h is tells memory =
    subst (λ x. IsTold (answer_from x) fault) (sym h.2) (tells h.0 f (is ∙ ap (λ rest. codes "data" ++ rest) h.1) refl)

-- The walk through fragments, step after step.
use Rattle.std.proofs.Common.{◌≡◌, ◌+◌, ◌<◌, ℕ, zero, suc, Bool, true, false, ◌||◌, nat_eq, List, [], ◌∷◌, ◌++◌, map, drop, length, get_or, set, reverse, replicate, Option, None, Some, refl, sym, ap, ◌∙◌, subst, arith, append_assoc, append-nil, length-append, take, ◌-◌, ap₂, true≢false}
use Rattle.std.specs.Prelude.{slice_get, option_to_list, MatchOption}
use Rattle.std.specs.List.{list_any}
use Rattle.std.proofs.lemmas.Bool.{eqb-true, eqb-false}
use Rattle.std.proofs.Math.Bool.{or-true, or-false}
use Rattle.std.proofs.lemmas.List.{get_or-set_same, get_or-set_other, length-set, length-replicate, length-reverse, length-map, map-append, reverse-append}
use Rattle.std.proofs.lemmas.List.Folds.{list_any-append}
use Rattle.document_reader.specs.declared.trees.Selection.{Selection}
use Rattle.gql_base.specs.ways.Reading.{Identifier}
use Rattle.gql_base.specs.parts.Values.{NamedValue}
use Rattle.gql_base.specs.parts.Arguments.{DirectiveTree}
use Rattle.document_reader.specs.Documents.{FieldNames, SelectionTree, SelectionTrees, field_selection, fragment_spread, inline_fragment}
use Rattle.document_reader.specs.Trees.{selection_tree, set_tree}
use Rattle.document_rules.specs.declared.met.Met.{Met as MetFragment}
use Rattle.document_rules.specs.declared.met.Spread.{Spread as SpreadToCome}
use Rattle.gql_base.specs.names.Names.{place_of_name}
use Rattle.document_rules.specs.Parts.{FragmentData, fragment_name}
use Rattle.document_rules.specs.Met.{Met, Spread, spreads_in, spreads_in_one, spread_within, spreads_within, spreads_within_one, met_number, is_met, spread_count, look_at, walk, reached}
use Rattle.document_rules.specs.Steps.{to_come, unseen_spreads, AreSeen, LooksAt}
use Rattle.document_rules.specs.Views.{met_data, spread_data}

-- ---- the spreads of selections

pub pushed_to_come : (spreads : List SpreadToCome) (s : SpreadToCome) → to_come (spreads ++ (s ∷ [])) ≡ spread_data s ∷ to_come spreads
pushed_to_come spreads s = ap (map spread_data) (reverse-append spreads (s ∷ []))

spreads_of_set : (w : Option ℕ) (x : Selection) (rest : List Selection) → spreads_within w (set_tree (x ∷ rest)) ≡ spreads_within_one w (selection_tree x) ++ spreads_within w (set_tree rest)
unfolding spreads_in
spreads_of_set w x rest = map-append (spread_within w) (spreads_in_one (selection_tree x)) (spreads_in (set_tree rest))

pub spreads_more : (w : Option ℕ) (selections : List Selection) (n m : ℕ) (x : Selection) (new mid old : List Spread) → drop n selections ≡ x ∷ drop m selections
    → new ≡ spreads_within_one w (selection_tree x) ++ mid → mid ≡ spreads_within w (set_tree (drop m selections)) ++ old → new ≡ spreads_within w (set_tree (drop n selections)) ++ old
spreads_more w selections n m x new mid old front grown before =
    let one : List Spread = spreads_within_one w (selection_tree x) in
    let rest : List Spread = spreads_within w (set_tree (drop m selections)) in
    grown ∙ (ap (λ l. one ++ l) before ∙ (sym (append_assoc one rest old)
    ∙ ap (λ l. l ++ old) (sym (spreads_of_set w x (drop m selections)) ∙ ap (λ l. spreads_within w (set_tree l)) (sym front))))

pub no_spreads : (w : Option ℕ) → spreads_within w (set_tree []) ≡ []
unfolding spreads_in
no_spreads w = refl

pub in_below : (w : Option ℕ) (x : SelectionTree) (below given : SelectionTrees) (new old : List Spread) → ((v : Option ℕ) → spreads_within_one v x ≡ spreads_within v below) → given ≡ below
    → new ≡ spreads_within w given ++ old → new ≡ spreads_within_one w x ++ old
in_below w x below given new old same is grown = grown ∙ (ap (λ b. spreads_within w b ++ old) is ∙ ap (λ l. l ++ old) (sym (same w)))

pub below_of_field : (x : SelectionTree) (names : FieldNames) (arguments : List NamedValue) (directives : List DirectiveTree) (below : SelectionTrees) → x ≡ field_selection names arguments directives below
    → (v : Option ℕ) → spreads_within_one v x ≡ spreads_within v below
unfolding spreads_in
below_of_field x names arguments directives below is v = ap (λ y. spreads_within_one v y) is

pub below_of_inline : (x : SelectionTree) (on : Option Identifier) (directives : List DirectiveTree) (below : SelectionTrees) → x ≡ inline_fragment on directives below → (v : Option ℕ) → spreads_within_one v x ≡ spreads_within v below
unfolding spreads_in
below_of_inline x on directives below is v = ap (λ y. spreads_within_one v y) is

spread_alone : (w : Option ℕ) (x : SelectionTree) (name : Identifier) (directives : List DirectiveTree) → x ≡ fragment_spread name directives → spread_within w name.0 ∷ [] ≡ spreads_within_one w x
unfolding spreads_in
spread_alone w x name directives is = ap (λ y. spreads_within_one w y) (sym is)

pub spread_pushed : (w : Option ℕ) (x : SelectionTree) (name : Identifier) (directives : List DirectiveTree) (old pushed : List SpreadToCome) (s : SpreadToCome) → x ≡ fragment_spread name directives → pushed ≡ old ++ (s ∷ [])
    → spread_data s ≡ spread_within w name.0 → to_come pushed ≡ spreads_within_one w x ++ to_come old
spread_pushed w x name directives old pushed s is grown seen =
    ap to_come grown ∙ (pushed_to_come old s ∙ (ap (λ d. d ∷ to_come old) seen ∙ ap (λ l. l ++ to_come old) (spread_alone w x name directives is)))

-- ---- the fragments that were met

pub met_more : (ms : List Met) (m : Met) (n : ℕ) → is_met (ms ++ (m ∷ [])) n ≡ (is_met ms n || nat_eq n m.fragment)
met_more ms m n = ap (list_any (nat_eq n)) (map-append met_number ms (m ∷ [])) ∙ (list_any-append (nat_eq n) (map met_number ms) (m.fragment ∷ []) ∙ ap (λ b. is_met ms n || b) (or-false (nat_eq n m.fragment)))

pub still_seen : (fs : List FragmentData) (met later : List MetFragment) (seen : List Bool) (m : MetFragment) → AreSeen fs met seen → later ≡ met ++ (m ∷ []) → m.number < length seen → AreSeen fs later (set seen m.number true)
still_seen fs met later seen m before grown within = record {
  each = length-set seen m.number true ∙ before.each;
  same = λ n h. at_number n (subst (λ k. n < k) (length-set seen m.number true) h) (nat_eq n m.number) refl;
}
  where
    views : map met_data later ≡ map met_data met ++ (met_data m ∷ [])
    views = ap (map met_data) grown ∙ map-append met_data met (m ∷ [])

    at_number : (n : ℕ) → n < length seen → (b : Bool) → nat_eq n m.number ≡ b → get_or (set seen m.number true) n false ≡ is_met (map met_data later) n
    at_number n h true e =
        ap (λ k. get_or (set seen m.number true) k false) (eqb-true n m.number e) ∙ (get_or-set_same seen m.number true false within
        ∙ sym (ap (λ l. is_met l n) views ∙ (met_more (map met_data met) (met_data m) n ∙ (ap (λ c. is_met (map met_data met) n || c) e ∙ or-true (is_met (map met_data met) n)))))
    at_number n h false e =
        get_or-set_other seen m.number n true false (eqb-false n m.number e) ∙ (before.same n h
        ∙ sym (ap (λ l. is_met l n) views ∙ (met_more (map met_data met) (met_data m) n ∙ (ap (λ c. is_met (map met_data met) n || c) e ∙ or-false (is_met (map met_data met) n)))))

pub none_seen : (fs : List FragmentData) (n : ℕ) → n ≡ length fs → AreSeen fs [] (replicate n false)
none_seen fs n is = record {
  each = length-replicate n false ∙ is;
  same = λ k h. blank n k;
}
  where
    blank : (n k : ℕ) → get_or (replicate n false) k false ≡ false
    blank zero k = refl
    blank (suc n) zero = refl
    blank (suc n) (suc k) = blank n k

-- ---- how many spreads weren't seen

abbrev pub spreads_at : Option FragmentData → ℕ
spreads_at None = 0
spreads_at (Some f) = length (spreads_in f.below)

pub seen_once : (seen : List Bool) (fs : List FragmentData) (k : ℕ) → length seen ≡ length fs → k < length seen → get_or seen k false ≡ false
    → unseen_spreads (set seen k true) fs + spreads_at (slice_get fs k) ≡ unseen_spreads seen fs
seen_once [] fs k each within new = absurd (omega (arith, within))
seen_once (b ∷ seen) [] k each within new = absurd (cc)
seen_once (true ∷ seen) (f ∷ fs) zero each within new = absurd (true≢false new)
seen_once (false ∷ seen) (f ∷ fs) zero each within new = omega arith
seen_once (true ∷ seen) (f ∷ fs) (suc k) each within new = seen_once seen fs k (omega arith) (omega arith) new
seen_once (false ∷ seen) (f ∷ fs) (suc k) each within new = omega (arith, seen_once seen fs k (omega arith) (omega arith) new)

pub all_unseen : (fs : List FragmentData) (n : ℕ) → n ≡ length fs → unseen_spreads (replicate n false) fs ≡ spread_count fs
all_unseen [] zero is = refl
all_unseen [] (suc n) is = absurd (cc)
all_unseen (f ∷ fs) zero is = absurd (cc)
all_unseen (f ∷ fs) (suc n) is = ap (λ k. length (spreads_in f.below) + k) (all_unseen fs n (omega arith))

-- ---- the spreads that are still to be looked at

pub length_to_come : (spreads : List SpreadToCome) → length (to_come spreads) ≡ length spreads
length_to_come spreads = length-map (reverse spreads) spread_data ∙ length-reverse spreads

pub length_of_within : (w : Option ℕ) (below : SelectionTrees) → length (spreads_within w below) ≡ length (spreads_in below)
length_of_within w below = length-map (spreads_in below) (spread_within w)

-- ---- the walk

pub walk_ends : (fs : List FragmentData) (n : ℕ) (met : List Met) → walk fs n met [] ≡ met
unfolding walk
walk_ends fs zero met = refl
walk_ends fs (suc n) met = refl

pub walk_looks : (fs : List FragmentData) (n : ℕ) (met : List Met) (s : Spread) (others : List Spread) → walk fs (suc n) met (s ∷ others) ≡ look_at fs (walk fs n) met s others (place_of_name fragment_name fs s.name)
unfolding walk
walk_looks fs n met s others = refl

-- ---- one step, and where the walk begins and ends

pub entered_count : (fs : List FragmentData) (seen later : List Bool) (k : ℕ) (f : FragmentData) (new old : List SpreadToCome) (w : Option ℕ) (given : SelectionTrees) → length seen ≡ length fs → k < length fs
    → get_or seen k false ≡ false → later ≡ set seen k true → Some f ≡ slice_get fs k → given ≡ f.below → to_come new ≡ spreads_within w given ++ to_come old
    → length new + unseen_spreads later fs ≡ length old + unseen_spreads seen fs
entered_count fs seen later k f new old w given each within unmet marked there is grown =
    let more : length new ≡ length (spreads_in f.below) + length old =
    sym (length_to_come new) ∙ (ap length grown ∙ (length-append (spreads_within w given) (to_come old)
    ∙ (ap (λ n. n + length (to_come old)) (length_of_within w given ∙ ap (λ b. length (spreads_in b)) is) ∙ ap (λ n. length (spreads_in f.below) + n) (length_to_come old)))) in
    let once : unseen_spreads later fs + length (spreads_in f.below) ≡ unseen_spreads seen fs =
    ap (λ l. unseen_spreads l fs + length (spreads_in f.below)) marked ∙ (ap (λ o. unseen_spreads (set seen k true) fs + spreads_at o) there ∙ seen_once seen fs k each (omega arith) unmet) in
    omega (arith, more, once)

pub nothing_entered : (fs : List FragmentData) (seen later : List Bool) (k old : ℕ) → length seen ≡ length fs → k < length fs → get_or seen k false ≡ false → later ≡ set seen k true → None ≡ slice_get fs k
    → old + unseen_spreads later fs ≡ old + unseen_spreads seen fs
nothing_entered fs seen later k old each within unmet marked there =
    let once : unseen_spreads later fs + 0 ≡ unseen_spreads seen fs =
    ap (λ l. unseen_spreads l fs + 0) marked ∙ (ap (λ o. unseen_spreads (set seen k true) fs + spreads_at o) there ∙ seen_once seen fs k each (omega arith) unmet) in
    omega (arith, once)

pub walk_begins : (fs : List FragmentData) (met : List MetFragment) (seen : List Bool) (n : ℕ) (new old : List SpreadToCome) (below : SelectionTrees) → met ≡ [] → seen ≡ replicate n false → n ≡ length fs → old ≡ []
    → to_come new ≡ spreads_within None below ++ to_come old → AreSeen fs met seen × (walk fs (length new + unseen_spreads seen fs) (map met_data met) (to_come new) ≡ reached fs below)
walk_begins fs met seen n new old below none blank long empty grown =
    let here : to_come new ≡ spreads_within None below = grown ∙ (ap (λ l. spreads_within None below ++ to_come l) empty ∙ append-nil (spreads_within None below)) in
    let count : length new ≡ length (spreads_in below) = sym (length_to_come new) ∙ (ap length here ∙ length_of_within None below) in (
      subst (λ l. AreSeen fs l seen) (sym none) (subst (AreSeen fs []) (sym blank) (none_seen fs n long)),
      ap₂ (λ k m. walk fs k m (to_come new)) (ap₂ (λ a b. a + b) count (ap (λ l. unseen_spreads l fs) blank ∙ all_unseen fs n long)) (ap (map met_data) none)
          ∙ ap (walk fs (length (spreads_in below) + spread_count fs) []) here,
    )

pub walk_goes : (fs : List FragmentData) (met later_met : List Met) (seen later : List Bool) (whole spreads new : List SpreadToCome) (s : SpreadToCome) (end : List Met) → whole ≡ spreads ++ (s ∷ [])
    → length new + unseen_spreads later fs ≡ length spreads + unseen_spreads seen fs → LooksAt fs met (spread_data s) (to_come spreads) later_met (to_come new)
    → walk fs (length whole + unseen_spreads seen fs) met (to_come whole) ≡ end → walk fs (length new + unseen_spreads later fs) later_met (to_come new) ≡ end
walk_goes fs met later_met seen later whole spreads new s end is left looks before =
    let n : ℕ = length spreads + unseen_spreads seen fs in
    let long : length whole + unseen_spreads seen fs ≡ suc n = ap (λ l. length l + unseen_spreads seen fs) is ∙ (ap (λ k. k + unseen_spreads seen fs) (length-append spreads (s ∷ [])) ∙ omega arith) in
    ap (λ k. walk fs k later_met (to_come new)) left ∙ (sym (looks n) ∙ (sym (walk_looks fs n met (spread_data s) (to_come spreads))
    ∙ (ap (walk fs (suc n) met) (sym (ap to_come is ∙ pushed_to_come spreads s)) ∙ (ap (λ k. walk fs k met (to_come whole)) (sym long) ∙ before))))

pub popped_none : {X : Type 0} (r : Option X) (old new : List X) (n m : ℕ) → r ≡ None → old ≡ new ++ option_to_list r → MatchOption r ((n ≡ 0) × (m ≡ 0)) (λ _. m + 1 ≡ n) → new ≡ take (n - 1) old → old ≡ []
popped_none None old new n m e is both rest = is ∙ (append-nil new ∙ (rest ∙ ap (λ k. take (k - 1) old) both.0))
popped_none (Some x) old new n m e is both rest = absurd (cc)

pub walk_is_done : (fs : List FragmentData) (n : ℕ) (met : List Met) (spreads : List SpreadToCome) (end : List Met) → spreads ≡ [] → walk fs n met (to_come spreads) ≡ end → met ≡ end
walk_is_done fs n met spreads end none before = sym (walk_ends fs n met) ∙ (ap (λ l. walk fs n met (to_come l)) (sym none) ∙ before)

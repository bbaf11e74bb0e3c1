-- The fragments that an operation reaches have ranks by their names, where the operation breaks no rule.
use Rattle.std.proofs.Common.{◌≡◌, ⊎_elim, ℕ, zero, suc, ◌+◌, ◌<◌, ◌≤◌, not, nat_eq, eq-eqb, bytes_eq, Bool, true, false, if◌then◌else◌, List, [], ◌∷◌, ◌++◌, map, length, slice_get, Option, Some, None, refl, sym, ap, ◌∙◌, subst, arith}
use Rattle.std.proofs.lemmas.Bool.{or_right, cases_Bool}
use Rattle.std.proofs.lemmas.List.{length-map}
use Rattle.std.proofs.lemmas.Option.{none-some, same_Some, slice_get-map, slice_get_cases}
use Rattle.std.proofs.lemmas.Slice.Eq.{bytes_eq-Decides}
use Rattle.std.specs.List.{list_any, position_from}
use Rattle.gql_base.specs.ways.Reading.{Identifier}
use Rattle.gql_base.specs.names.Names.{first_of_name, place_of_name, are_distinct, first_repeated}
use Rattle.gql_base.proofs.NameLaws.RepeatedLaws.{none_distinct}
use Rattle.document_reader.specs.declared.trees.Definition.{Definition}
use Rattle.document_reader.specs.declared.trees.Operation.{Operation}
use Rattle.document_reader.specs.declared.trees.Fragment.{Fragment}
use Rattle.document_reader.specs.Documents.{SelectionTree, field_selection, fragment_spread, inline_fragment, SelectionTrees, no_selection, selection_then}
use Rattle.document_reader.specs.Trees.{set_tree}
use Rattle.input_values.specs.coercion.Literals.{Environment}
use Rattle.schema_rules.specs.First.{or_else}
use Rattle.schema_model.specs.SchemaData.{SchemaData}
use Rattle.cost_directives.specs.Weights.{WeightsData}
use Rattle.schema_rules.proofs.FirstFaults.{neither}
use Rattle.cost_directives.proofs.FirstsFound.{both}
use Rattle.document_rules.proofs.CycleSteps.{no_breach}
use Rattle.document_rules.specs.declared.rule.Rule.TheVariants.{RepeatedName, LoneAnonymous, Subscription, NoRoot}
use Rattle.document_rules.specs.Parts.{FragmentData, fragment_data, fragment_name, fragments_of, operations_of, name_text, offset_at, repeated_at}
use Rattle.document_rules.specs.Met.{Met, Spread, met_number, met_at, is_met, spreads_in, spreads_in_one, spreads_of_data, spreads_within, spread_count, look_at, walk, before_reached, fragments_met}
use Rattle.document_rules.specs.Rules.{operation_names, name_of_fragment, earlier, repeated_name, lone_anonymous, subscription, no_root}
use Rattle.document_rules.specs.Checking.{breach, breach_of_parts, fragments_in, reached_by, breach_before_parts, first_broken}
use Rattle.document_rules.specs.Ranks.{IsBelow, AreBelow, HasRanks}
use Rattle.document_rules.proofs.CycleSteps.{kept_has_ranks}
use Rattle.plan_model.specs.Collecting.{fragment_named}
use Rattle.plan_model.specs.MergingWalk.{OneRanked, AreRanked, IsAcyclic}
use Rattle.plan_model.specs.Operations.{setting_of, root_position}

-- ---- ranks by names: that of the fragment of a name is one more than that of its number

abbrev by_place : (ℕ → ℕ) → Option ℕ → ℕ
by_place rank None = 0
by_place rank (Some number) = suc (rank number)

abbrev rank_of : List FragmentData → (ℕ → ℕ) → List ℕ → ℕ
rank_of fragments rank name = by_place rank (place_of_name fragment_name fragments name)

lower : (rank : ℕ → ℕ) (met : List Met) (r : ℕ) (o : Option ℕ) → IsBelow rank met r o → by_place rank o < suc r
lower rank met r None h = omega arith
lower rank met r (Some number) h = omega (arith, h.1)

module _ (fragments : List FragmentData) (rank : ℕ → ℕ) (met : List Met) where
  below_left : (r : ℕ) (xs ys : List (List ℕ)) → AreBelow rank fragments met r (xs ++ ys) → AreBelow rank fragments met r xs
  below_left r [] ys h = tt
  below_left r (x ∷ xs) ys h = (h.0, below_left r xs ys h.1)

  below_right : (r : ℕ) (xs ys : List (List ℕ)) → AreBelow rank fragments met r (xs ++ ys) → AreBelow rank fragments met r ys
  below_right r [] ys h = h
  below_right r (x ∷ xs) ys h = below_right r xs ys h.1

  mutual
    unfolding spreads_in_one spreads_in

    one_ranked : (r : ℕ) (s : SelectionTree) → AreBelow rank fragments met r (spreads_in_one s) → OneRanked (rank_of fragments rank) (suc r) s
    one_ranked r (field_selection names arguments directives below) h = all_ranked r below h
    one_ranked r (fragment_spread name directives) h = lower rank met r (place_of_name fragment_name fragments name.0) h.0
    one_ranked r (inline_fragment on directives below) h = all_ranked r below h

    all_ranked : (r : ℕ) (ss : SelectionTrees) → AreBelow rank fragments met r (spreads_in ss) → AreRanked (rank_of fragments rank) (suc r) ss
    all_ranked r no_selection h = tt
    all_ranked r (selection_then s others) h = (one_ranked r s (below_left r (spreads_in_one s) (spreads_in others) h), all_ranked r others (below_right r (spreads_in_one s) (spreads_in others) h))

-- ---- the place of a fragment by its name, where names are distinct

abbrev is_named : List ℕ → FragmentData → Bool
is_named name f = bytes_eq (fragment_name f) name

listed : (fragments : List FragmentData) (n : ℕ) (f : FragmentData) → slice_get fragments n ≡ Some f → list_any (bytes_eq (fragment_name f)) (map fragment_name fragments) ≡ true
listed [] n f there = absurd (none-some f there)
listed (g ∷ fragments) zero f there = rw ((bytes_eq-Decides (fragment_name f) (fragment_name g)).1 (ap fragment_name (sym (same_Some g f there)))) refl
listed (g ∷ fragments) (suc n) f there = or_right (bytes_eq (fragment_name f) (fragment_name g)) (list_any (bytes_eq (fragment_name f)) (map fragment_name fragments)) (listed fragments n f there)

not_both : (b : Bool) → not b ≡ true → b ≡ true → ⊥
not_both true h k = absurd (cc)
not_both false h k = absurd (cc)

placed : (fragments : List FragmentData) (i number : ℕ) (f : FragmentData) (name : List ℕ) → are_distinct (map fragment_name fragments) ≡ true → slice_get fragments number ≡ Some f → is_named name f ≡ true → position_from (is_named name) i fragments ≡ Some (i + number)
placed [] i number f name distinct there is = absurd (none-some f there)
placed (g ∷ fragments) i zero f name distinct there is = rw (ap (is_named name) (same_Some g f there) ∙ is) (ap Some (omega arith))
placed (g ∷ fragments) i (suc n) f name distinct there is =
    let apart = both (not (list_any (bytes_eq (fragment_name g)) (map fragment_name fragments))) (are_distinct (map fragment_name fragments)) distinct in
    ⊎_elim
    (λ (same : is_named name g ≡ true).
    let equal : fragment_name f ≡ fragment_name g = (bytes_eq-Decides (fragment_name f) name).0 is ∙ sym ((bytes_eq-Decides (fragment_name g) name).0 same) in
    absurd (not_both (list_any (bytes_eq (fragment_name g)) (map fragment_name fragments)) apart.0 (subst (λ (m : List ℕ). list_any (bytes_eq m) (map fragment_name fragments) ≡ true) equal (listed fragments n f there))))
    (λ (other : is_named name g ≡ false). rw (other) (placed fragments (i + 1) n f name apart.1 there is ∙ ap Some (omega arith)))
    (cases_Bool (is_named name g))

-- ---- a fragment that is found among those that were met

record FoundAmong (all : List Fragment) (met : List Met) (name : List ℕ) (f : FragmentData) : Type 0 where
  number : ℕ
  there : is_met met number ≡ true
  is : slice_get (map fragment_data all) number ≡ Some f
  named : is_named name f ≡ true

later_found : (all : List Fragment) (m : Met) (met : List Met) (name : List ℕ) (f : FragmentData) → FoundAmong all met name f → FoundAmong all (m ∷ met) name f
later_found all m met name f found = record { number = found.number; there = or_right (nat_eq found.number m.fragment) (list_any (nat_eq found.number) (map met_number met)) found.there; is = found.is; named = found.named }

first_or_later : (all : List Fragment) (m : Met) (met : List Met) (name : List ℕ) (f : FragmentData) → (first_of_name fragment_name (map fragment_data (fragments_met all met)) name ≡ Some f → FoundAmong all met name f)
    → (o : Option Fragment) → slice_get all m.fragment ≡ o → first_of_name fragment_name (map fragment_data (before_reached o (fragments_met all met))) name ≡ Some f → FoundAmong all (m ∷ met) name f
first_or_later all m met name f later None is h = later_found all m met name f (later h)
first_or_later all m met name f later (Some g) is h = ⊎_elim
    (λ (same : is_named name (fragment_data g) ≡ true).
    let it : fragment_data g ≡ f = same_Some (fragment_data g) f (sym (ap (λ (b : Bool). if b then Some (fragment_data g) else first_of_name fragment_name (map fragment_data (fragments_met all met)) name) same) ∙ h) in
    record {
      number = m.fragment;
      there = rw (eq-eqb m.fragment m.fragment refl) refl;
      is = slice_get-map fragment_data all m.fragment ∙ (rw (is) (ap Some it));
      named = ap (is_named name) (sym it) ∙ same;
    })
    (λ (other : is_named name (fragment_data g) ≡ false). later_found all m met name f (later (sym (ap (λ (b : Bool). if b then Some (fragment_data g) else first_of_name fragment_name (map fragment_data (fragments_met all met)) name) other) ∙ h)))
    (cases_Bool (is_named name (fragment_data g)))

found_among : (all : List Fragment) (met : List Met) (name : List ℕ) (f : FragmentData) → first_of_name fragment_name (map fragment_data (fragments_met all met)) name ≡ Some f → FoundAmong all met name f
found_among all [] name f h = absurd (none-some f h)
found_among all (m ∷ met) name f h = first_or_later all m met name f (found_among all met name f) (slice_get all m.fragment) refl h

-- ---- all that was met is a fragment of the document

abbrev AreNumbers : ℕ → List Met → Type 0
AreNumbers count [] = Unit {0}
AreNumbers count (m ∷ met) = (m.fragment < count) × AreNumbers count met

one_more : (count : ℕ) (met : List Met) (m : Met) → AreNumbers count met → m.fragment < count → AreNumbers count (met ++ (m ∷ []))
one_more count [] m h less = (less, tt)
one_more count (n ∷ met) m h less = (h.0, one_more count met m h.1 less)

place_within : (test : FragmentData → Bool) (i : ℕ) (fragments : List FragmentData) (n : ℕ) → position_from test i fragments ≡ Some n → n < i + length fragments
place_within test i [] n h = absurd (none-some n h)
place_within test i (f ∷ fragments) n h = ⊎_elim
    (λ (passes : test f ≡ true). let is : i ≡ n = same_Some i n (sym (ap (λ (b : Bool). if b then Some i else position_from test (i + 1) fragments) passes) ∙ h) in omega (arith, is))
    (λ (fails : test f ≡ false). let less : n < (i + 1) + length fragments = place_within test (i + 1) fragments n (sym (ap (λ (b : Bool). if b then Some i else position_from test (i + 1) fragments) fails) ∙ h) in omega (arith, less))
    (cases_Bool (test f))

module _ (fragments : List FragmentData) where
  module _ (go : List Met → List Spread → List Met) (goes : (met : List Met) (spreads : List Spread) → AreNumbers (length fragments) met → AreNumbers (length fragments) (go met spreads)) where
    looked_at : (met : List Met) (s : Spread) (others : List Spread) (o : Option ℕ) → ((n : ℕ) → o ≡ Some n → n < length fragments) → AreNumbers (length fragments) met → AreNumbers (length fragments) (look_at fragments go met s others o)
    looked_at met s others None within h = goes met others h
    looked_at met s others (Some n) within h = ⊎_elim
        (λ (is : is_met met n ≡ true). rw (is) (goes met others h))
        (λ (is : is_met met n ≡ false). rw (is) (goes (met ++ (met_at n s.within ∷ [])) (spreads_of_data (length met) (slice_get fragments n) ++ others) (one_more (length fragments) met (met_at n s.within) h (within n refl))))
        (cases_Bool (is_met met n))

  no_more : (n : ℕ) → n < 0 + length fragments → n < length fragments
  no_more n h = omega (arith, h)

  walk_numbers : (steps : ℕ) (met : List Met) (spreads : List Spread) → AreNumbers (length fragments) met → AreNumbers (length fragments) (walk fragments steps met spreads)
  unfolding walk
  walk_numbers zero met spreads h = h
  walk_numbers (suc steps) met [] h = h
  walk_numbers (suc steps) met (s ∷ others) h = looked_at (walk fragments steps) (walk_numbers steps) met s others (place_of_name fragment_name fragments s.name) (λ n is. no_more n (place_within (is_named s.name) 0 fragments n is)) h

all_there : (all : List Fragment) (met : List Met) → AreNumbers (length all) met → length (fragments_met all met) ≡ length met
all_there all [] h = refl
all_there all (m ∷ met) h = ⊎_elim
    (λ found. rw (found.2) (ap suc (all_there all met h.1)))
    (λ past. let less = h.0 in absurd (beyond (m.fragment) (length all) less past.0))
    (slice_get_cases all m.fragment).1
  where
    beyond : (a b : ℕ) → a < b → b ≤ a → ⊥
    beyond a b less le = omega arith

-- ---- names of fragments

none_earlier : (o p : Option ℕ) → earlier o p ≡ None → p ≡ None
none_earlier None p h = h
none_earlier (Some at) None h = refl
none_earlier (Some at) (Some other) h = absurd (cc)

no_offset : (names : List Identifier) (o : Option ℕ) → offset_at names o ≡ None → o ≡ None
no_offset names None h = refl
no_offset names (Some place) h = absurd (cc)

same_names : (all : List Fragment) → map name_text (map name_of_fragment all) ≡ map fragment_name (map fragment_data all)
same_names [] = refl
same_names (f ∷ all) = ap (λ (names : List (List ℕ)). f.name.text ∷ names) (same_names all)

names_distinct : (s : SchemaData) (ds : List Definition) (o : Operation) → first_broken s ds o ≡ None → are_distinct (map fragment_name (fragments_in ds)) ≡ true
names_distinct s ds o kept =
    let before = (neither (breach_before_parts s ds o) (breach_of_parts s (fragments_in ds) o (reached_by ds o)) kept).0 in
    let first = (neither (breach RepeatedName (repeated_name ds)) (or_else (breach LoneAnonymous (lone_anonymous ds)) (or_else (breach Subscription (subscription o)) (breach NoRoot (no_root s o)))) before).0 in
    let names = map name_of_fragment (fragments_of ds) in
    let none = none_earlier (repeated_at (operation_names (operations_of ds))) (repeated_at names) (no_breach RepeatedName (repeated_name ds) first) in
    sym (ap are_distinct (same_names (fragments_of ds))) ∙ none_distinct (map name_text names) (no_offset names (first_repeated (map name_text names)) none)

-- ---- the operation

deep_enough : (count met : ℕ) → count ≡ met → suc (suc met) ≡ count + 2
deep_enough count met is = omega (arith, is)

none_in_front : (n : ℕ) → 0 + n ≡ n
none_in_front n = omega arith

pub checked_is_acyclic : (s : SchemaData) (w : WeightsData) (values : Environment) (ds : List Definition) (o : Operation) (root : ℕ) → first_broken s ds o ≡ None → IsAcyclic (setting_of s w values ds o) (root_position root o)
unfolding fragment_named
checked_is_acyclic s w values ds o root kept =
    let all : List Fragment = fragments_of ds in
    let fragments : List FragmentData = fragments_in ds in
    let met : List Met = reached_by ds o in
    let below : SelectionTrees = set_tree o.selections.items in
    let ranks : HasRanks fragments met below = kept_has_ranks s ds o kept in
    let distinct = names_distinct s ds o kept in
    let numbers = walk_numbers fragments (length (spreads_in below) + spread_count fragments) [] (spreads_within None below) tt in
    let count : length (map fragment_data (fragments_met all met)) ≡ length met = length-map (fragments_met all met) fragment_data ∙ all_there all met (subst (λ (n : ℕ). AreNumbers n met) (length-map all fragment_data) numbers) in
    record {
      rank = rank_of fragments ranks.rank;
      fragments = λ name f is.
          let found : FoundAmong all met name f = found_among all met name f is in
          let place : place_of_name fragment_name fragments name ≡ Some found.number = placed fragments 0 found.number f name distinct found.is found.named ∙ ap Some (none_in_front found.number) in
          subst (λ (bound : ℕ). AreRanked (rank_of fragments ranks.rank) bound f.below) (sym (ap (by_place ranks.rank) place)) (all_ranked fragments ranks.rank met (ranks.rank found.number) f.below (ranks.inside found.number f found.there found.is));
      spreads = (subst (λ (bound : ℕ). AreRanked (rank_of fragments ranks.rank) bound below) (deep_enough (length (map fragment_data (fragments_met all met))) (length met) count) (all_ranked fragments ranks.rank met (suc (length met)) below ranks.selections), tt);
    }

-- What is spread in selections depends neither on offsets nor on the names of types that are added. And the fragments that a walk
-- meets, by their names.
use Rattle.std.proofs.Common.{ℕ, zero, suc, ◌+◌, ◌≡◌, nat_eq, Bool, true, false, true≢false, cond, if◌then◌else◌, List, [], ◌∷◌, ◌++◌, map, length, Option, None, Some, refl, sym, ap, ap₂, ◌∙◌, subst, arith, append-nil, append_assoc, eq-eqb, ne_eqb}
use Rattle.std.specs.Prelude.{slice_get}
use Rattle.std.specs.List.{position_from}
use Rattle.std.specs.Str.{bytes_eq}
use Rattle.std.proofs.lemmas.Option.{same_Some, none-some}
use Rattle.gql_base.specs.names.Names.{place_of_name}
use Rattle.document_reader.specs.Documents.{SelectionTree, field_selection, fragment_spread, inline_fragment, SelectionTrees, no_selection, selection_then}
use Rattle.document_reader.specs.PlacelessDocuments.{selection_placeless, selections_placeless}
use Rattle.document_rules.specs.Parts.{FragmentData, fragment_name}
use Rattle.document_rules.specs.Sites.{below_inline}
use Rattle.document_rules.specs.Met.{Met, Spread, spreads_in, spreads_in_one, spreads_of_data, met_number, is_met, met_at, look_at, walk}
use Rattle.schema_model.specs.SchemaData.{SchemaData}
use Rattle.plan_model.specs.SelectedFields.{written_below, is_asked}
use Rattle.typename_rewrite.specs.Rewriting.{typename_under, and_then, ended, call_of, rewritten_selection, rewritten_selections}
use Rattle.acceptance.proofs.FoundMembers.{same_bytes, equal_bytes}

-- ---- what is spread in selections

mutual
  unfolding spreads_in selection_placeless

  one_placeless : (x : SelectionTree) → spreads_in_one (selection_placeless x) ≡ spreads_in_one x
  one_placeless (field_selection names arguments directives below) = spreads_placeless below
  one_placeless (fragment_spread name directives) = refl
  one_placeless (inline_fragment on directives below) = spreads_placeless below

  pub spreads_placeless : (below : SelectionTrees) → spreads_in (selections_placeless below) ≡ spreads_in below
  spreads_placeless no_selection = refl
  spreads_placeless (selection_then x others) = ap₂ (λ (a b : List (List ℕ)). a ++ b) (one_placeless x) (spreads_placeless others)

module _ (alias : List ℕ) where
  none_more : (below : SelectionTrees) → spreads_in (and_then below (typename_under alias)) ≡ spreads_in below
  unfolding spreads_in and_then
  none_more no_selection = refl
  none_more (selection_then x others) = ap (λ (l : List (List ℕ)). spreads_in_one x ++ l) (none_more others)

  spreads_ended : (asked : Bool) (below : SelectionTrees) → spreads_in (ended alias asked below) ≡ spreads_in below
  spreads_ended asked no_selection = refl
  spreads_ended true (selection_then x others) = none_more (selection_then x others)
  spreads_ended false (selection_then x others) = refl

  module _ (s : SchemaData) where
    mutual
      unfolding spreads_in rewritten_selection

      one_rewritten : (parent : Option ℕ) (x : SelectionTree) → spreads_in_one (rewritten_selection s alias parent x) ≡ spreads_in_one x
      one_rewritten parent (field_selection names arguments directives below) =
          spreads_ended (is_asked s parent (call_of names arguments)) (rewritten_selections s alias (written_below s parent (call_of names arguments)) below)
          ∙ spreads_rewritten (written_below s parent (call_of names arguments)) below
      one_rewritten parent (fragment_spread name directives) = refl
      one_rewritten parent (inline_fragment on directives below) = spreads_rewritten (below_inline s parent on) below

      pub spreads_rewritten : (parent : Option ℕ) (below : SelectionTrees) → spreads_in (rewritten_selections s alias parent below) ≡ spreads_in below
      spreads_rewritten parent no_selection = refl
      spreads_rewritten parent (selection_then x others) = ap₂ (λ (a b : List (List ℕ)). a ++ b) (one_rewritten parent x) (spreads_rewritten parent others)

-- ---- places

-- what stands at a place that is found
pub record IsThere {X : Type 0} (test : X → Bool) (i : ℕ) (xs : List X) (place : ℕ) : Type 0 where
  pub index : ℕ
  pub is : place ≡ i + index
  pub thing : X
  pub there : slice_get xs index ≡ Some thing
  pub passes : test thing ≡ true

is_there : {X : Type 0} (test : X → Bool) (i : ℕ) (xs : List X) (place : ℕ) → position_from test i xs ≡ Some place → IsThere test i xs place
is_there test i [] place found = absurd (cc)
is_there {X} test i (x ∷ xs) place found = by_test (test x) refl found (λ later. is_there test (i + 1) xs place later)
  where
    by_test : (b : Bool) → test x ≡ b → cond b (Some i) (position_from test (i + 1) xs) ≡ Some place → (position_from test (i + 1) xs ≡ Some place → IsThere test (i + 1) xs place) → IsThere test i (x ∷ xs) place
    by_test true passes here behind = let e : i ≡ place = same_Some i place here in record { index = 0; is = omega (arith, e); thing = x; there = refl; passes = passes }
    by_test false other later behind = let r = behind later in let e = r.is in record { index = suc r.index; is = omega (arith, e); thing = r.thing; there = r.there; passes = r.passes }

pub fragment_there : (fs : List FragmentData) (name : List ℕ) (number : ℕ) → place_of_name fragment_name fs name ≡ Some number → (f : FragmentData) × (slice_get fs number ≡ Some f) × (f.name.0 ≡ name)
fragment_there fs name number found =
    let r = is_there (λ (f : FragmentData). bytes_eq (fragment_name f) name) 0 fs number found in
    let e = r.is in
    let same : r.index ≡ number = omega (arith, e) in
    (r.thing, subst (λ (n : ℕ). slice_get fs n ≡ Some r.thing) same r.there, same_bytes r.thing.name.0 name r.passes)

-- the place of a name, where things are seen by their names alone
pub places_of_names : (fs : List FragmentData) (i : ℕ) (name : List ℕ) → position_from (λ (f : FragmentData). bytes_eq (fragment_name f) name) i fs ≡ position_from (λ (n : List ℕ). bytes_eq n name) i (map fragment_name fs)
places_of_names [] i name = refl
places_of_names (f ∷ fs) i name = ap (cond (bytes_eq (fragment_name f) name) (Some i)) (places_of_names fs (i + 1) name)

-- ---- fragments that were met

abbrev pub before_data : Option FragmentData → List FragmentData → List FragmentData
before_data None others = others
before_data (Some f) others = f ∷ others

module _ (fs : List FragmentData) where
  -- the fragments that were met, in this order
  abbrev pub datas_met : List Met → List FragmentData
  datas_met [] = []
  datas_met (m ∷ ms) = before_data (slice_get fs m.fragment) (datas_met ms)

  -- It is the first fragment of its name.
  pub record IsFirst (m : Met) : Type 0 where
    pub fragment : FragmentData
    pub there : slice_get fs m.fragment ≡ Some fragment
    pub first : place_of_name fragment_name fs fragment.name.0 ≡ Some m.fragment

  abbrev pub AreFirst : List Met → Type 0
  AreFirst [] = Unit {0}
  AreFirst (m ∷ ms) = IsFirst m × AreFirst ms

  first_of_place : (name : List ℕ) (number : ℕ) (within : Option ℕ) → place_of_name fragment_name fs name ≡ Some number → IsFirst (met_at number within)
  first_of_place name number within found =
      let r = fragment_there fs name number found in
      record { fragment = r.0; there = r.1; first = ap (place_of_name fragment_name fs) r.2 ∙ found }

  one_more : (ms : List Met) (m : Met) → AreFirst ms → IsFirst m → AreFirst (ms ++ (m ∷ []))
  one_more [] m are is = (is, tt)
  one_more (x ∷ ms) m are is = (are.0, one_more ms m are.1 is)

  pub front_first : (ms more : List Met) → AreFirst (ms ++ more) → AreFirst more
  front_first [] more are = are
  front_first (x ∷ ms) more are = front_first ms more are.1

  module _ (n : ℕ) (before : (met : List Met) (spreads : List Spread) → AreFirst met → AreFirst (walk fs n met spreads)) where
    by_met : (met : List Met) (s : Spread) (others : List Spread) (number : ℕ) (b : Bool) → AreFirst met → place_of_name fragment_name fs s.name ≡ Some number
        → AreFirst (if b then walk fs n met others else walk fs n (met ++ (met_at number s.within ∷ [])) (spreads_of_data (length met) (slice_get fs number) ++ others))
    by_met met s others number true are found = before met others are
    by_met met s others number false are found = before (met ++ (met_at number s.within ∷ [])) (spreads_of_data (length met) (slice_get fs number) ++ others) (one_more met (met_at number s.within) are (first_of_place s.name number s.within found))

    by_look : (met : List Met) (s : Spread) (others : List Spread) (o : Option ℕ) → AreFirst met → place_of_name fragment_name fs s.name ≡ o → AreFirst (look_at fs (walk fs n) met s others o)
    by_look met s others None are found = before met others are
    by_look met s others (Some number) are found = by_met met s others number (is_met met number) are found

  -- each fragment that is met is the first of its name
  pub walk_first : (n : ℕ) (met : List Met) (spreads : List Spread) → AreFirst met → AreFirst (walk fs n met spreads)
  unfolding walk
  walk_first zero met spreads are = are
  walk_first (suc n) met [] are = are
  walk_first (suc n) met (s ∷ others) are = by_look n (walk_first n) met s others (place_of_name fragment_name fs s.name) are refl

  module _ (n : ℕ) (before : (met : List Met) (spreads : List Spread) → (more : List Met) × (walk fs n met spreads ≡ met ++ more)) where
    longer_met : (met : List Met) (s : Spread) (others : List Spread) (number : ℕ) (b : Bool)
        → (more : List Met) × ((if b then walk fs n met others else walk fs n (met ++ (met_at number s.within ∷ [])) (spreads_of_data (length met) (slice_get fs number) ++ others)) ≡ met ++ more)
    longer_met met s others number true = before met others
    longer_met met s others number false =
        let e = before (met ++ (met_at number s.within ∷ [])) (spreads_of_data (length met) (slice_get fs number) ++ others) in
        (met_at number s.within ∷ e.0, e.1 ∙ append_assoc met (met_at number s.within ∷ []) e.0)

    longer_look : (met : List Met) (s : Spread) (others : List Spread) (o : Option ℕ) → (more : List Met) × (look_at fs (walk fs n) met s others o ≡ met ++ more)
    longer_look met s others None = before met others
    longer_look met s others (Some number) = longer_met met s others number (is_met met number)

  -- what was met stays at the front
  pub walk_longer : (n : ℕ) (met : List Met) (spreads : List Spread) → (more : List Met) × (walk fs n met spreads ≡ met ++ more)
  unfolding walk
  walk_longer zero met spreads = ([], sym (append-nil met))
  walk_longer (suc n) met [] = ([], sym (append-nil met))
  walk_longer (suc n) met (s ∷ others) = longer_look n (walk_longer n) met s others (place_of_name fragment_name fs s.name)

  -- ---- their places among those that were met

  abbrev pub numbered : ℕ → List ℕ → Option ℕ → Option ℕ
  numbered i numbers None = None
  numbered i numbers (Some number) = position_from (nat_eq number) i numbers

  -- whether the number of the sought fragment is this one
  abbrev is_number : ℕ → Option ℕ → Bool
  is_number here None = false
  is_number here (Some number) = nat_eq number here

  same_test : (name : List ℕ) (o : Option ℕ) → place_of_name fragment_name fs name ≡ o → (m : Met) (is : IsFirst m) → bytes_eq is.fragment.name.0 name ≡ is_number m.fragment o
  same_test name o found m is = by_test (bytes_eq is.fragment.name.0 name) refl o found
    where
      by_test : (b : Bool) → bytes_eq is.fragment.name.0 name ≡ b → (o : Option ℕ) → place_of_name fragment_name fs name ≡ o → b ≡ is_number m.fragment o
      by_test true same None none = absurd (none-some m.fragment (sym none ∙ (ap (place_of_name fragment_name fs) (sym (same_bytes is.fragment.name.0 name same)) ∙ is.first)))
      by_test true same (Some number) there = sym (eq-eqb number m.fragment (same_Some number m.fragment (sym there ∙ (ap (place_of_name fragment_name fs) (sym (same_bytes is.fragment.name.0 name same)) ∙ is.first))))
      by_test false other None none = refl
      by_test false other (Some number) there = sym (ne_eqb number m.fragment (λ (e : number ≡ m.fragment).
          let r = fragment_there fs name number there in
          let f : r.0 ≡ is.fragment = same_Some r.0 is.fragment (sym r.1 ∙ (ap (slice_get fs) e ∙ is.there)) in
          true≢false (sym (ap (λ (n : List ℕ). bytes_eq n name) (ap (λ (x : FragmentData). x.name.0) (sym f) ∙ r.2) ∙ equal_bytes name) ∙ other)))

  cond_numbered : (i here : ℕ) (numbers : List ℕ) (o : Option ℕ) → cond (is_number here o) (Some i) (numbered (i + 1) numbers o) ≡ numbered i (here ∷ numbers) o
  cond_numbered i here numbers None = refl
  cond_numbered i here numbers (Some number) = refl

  -- the place of a name among the fragments that were met is that of its fragment's number
  pub places_met : (name : List ℕ) (i : ℕ) (ms : List Met) → AreFirst ms
      → position_from (λ (f : FragmentData). bytes_eq (fragment_name f) name) i (datas_met ms) ≡ numbered i (map met_number ms) (place_of_name fragment_name fs name)
  places_met name i [] are = none_numbered (place_of_name fragment_name fs name)
    where
      none_numbered : (o : Option ℕ) → None ≡ numbered i [] o
      none_numbered None = refl
      none_numbered (Some number) = refl
  places_met name i (m ∷ ms) are =
      ap (λ (o : Option FragmentData). position_from (λ (f : FragmentData). bytes_eq (fragment_name f) name) i (before_data o (datas_met ms))) are.0.there
      ∙ (ap₂ (λ (b : Bool) (o : Option ℕ). cond b (Some i) o) (same_test name (place_of_name fragment_name fs name) refl m are.0) (places_met name (i + 1) ms are.1)
      ∙ cond_numbered i m.fragment (map met_number ms) (place_of_name fragment_name fs name))

  pub data_at : (ms : List Met) (m : Met) (more : List Met) → AreFirst (ms ++ (m ∷ more)) → slice_get (datas_met (ms ++ (m ∷ more))) (length ms) ≡ slice_get fs m.fragment
  data_at [] m more are = ap (λ (o : Option FragmentData). slice_get (before_data o (datas_met more)) 0) are.0.there ∙ sym are.0.there
  data_at (x ∷ ms) m more are = ap (λ (o : Option FragmentData). slice_get (before_data o (datas_met (ms ++ (m ∷ more)))) (suc (length ms))) are.0.there ∙ data_at ms m more are.1

  pub datas_count : (ms : List Met) → AreFirst ms → length (datas_met ms) ≡ length ms
  datas_count [] are = refl
  datas_count (m ∷ ms) are = ap (λ (o : Option FragmentData). length (before_data o (datas_met ms))) are.0.there ∙ ap suc (datas_count ms are.1)

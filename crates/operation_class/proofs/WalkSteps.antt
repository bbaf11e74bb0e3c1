-- The walk over root fields, step after step.
use Rattle.std.proofs.Common.{◌≡◌, ◌+◌, ◌<◌, ◌≤◌, ◌-◌, ℕ, zero, suc, Bool, true, false, List, [], ◌∷◌, ◌++◌, map, take, length, get_or, set, replicate, Option, None, Some, refl, sym, ap, ap₂, ◌∙◌, arith, append_assoc, append-nil, length-append, true≢false}
use Rattle.std.specs.Prelude.{slice_get, option_to_list, MatchOption}
use Rattle.std.specs.Borrow.{Bor}
use Rattle.gql_base.specs.declared.parts.trees.Name.{Name}
use Rattle.gql_base.specs.names.Names.{place_of_name}
use Rattle.gql_base.specs.ways.Reading.{Identifier}
use Rattle.document_reader.specs.Documents.{SelectionTrees}
use Rattle.document_rules.specs.Parts.{FragmentData, fragment_name}
use Rattle.document_rules.specs.Views.{seen_name}
use Rattle.operation_class.specs.declared.root_fields.Defined.{Defined}
use Rattle.operation_class.specs.declared.root_parts.Part.{Part}
use Rattle.operation_class.specs.RootParts.{field_part, spread_part, root_parts, part_data, waiting}
use Rattle.operation_class.specs.RootFields.{defined_data, parts_in, after_spread, fields_within, count_parts, root_fields}
use Rattle.operation_class.specs.Steps.{data_of, unvisited, LeavesFewer, Enters, Steps}
use Rattle.operation_class.proofs.PartSteps.{waiting_pushed, length_waiting}

-- ---- how many parts may still come

pub none_visited : (fragments : List FragmentData) → unvisited (replicate (length fragments) false) fragments ≡ count_parts fragments
none_visited [] = refl
none_visited (f ∷ fragments) = ap (λ n. length (root_parts f.below) + n) (none_visited fragments)

abbrev pub count_at : Option FragmentData → ℕ
count_at None = 0
count_at (Some f) = length (root_parts f.below)

pub visited_once : (marks : List Bool) (fragments : List FragmentData) (k : ℕ) → length marks ≡ length fragments → k < length marks → get_or marks k false ≡ false
    → unvisited (set marks k true) fragments + count_at (slice_get fragments k) ≡ unvisited marks fragments
visited_once [] fragments k each within new = absurd (omega (arith, within))
visited_once (b ∷ marks) [] k each within new = absurd (cc)
visited_once (true ∷ marks) (f ∷ fragments) zero each within new = absurd (true≢false new)
visited_once (false ∷ marks) (f ∷ fragments) zero each within new = omega arith
visited_once (true ∷ marks) (f ∷ fragments) (suc k) each within new = visited_once marks fragments k (omega arith) (omega arith) new
visited_once (false ∷ marks) (f ∷ fragments) (suc k) each within new = omega (arith, visited_once marks fragments k (omega arith) (omega arith) new)

-- ---- a fragment is visited

pub gotten : (defined : List Defined) (k : ℕ) (d : Defined) → k < length defined → d ≡ get_or defined k d → slice_get (data_of defined) k ≡ Some (defined_data d)
gotten [] k d less is = absurd (omega (arith, less))
gotten (x ∷ defined) zero d less is = ap (λ y. Some (defined_data y)) (sym is)
gotten (x ∷ defined) (suc k) d less is = gotten defined k d (omega (arith, less)) is

module _ (defined : List Defined) (visited later : List Bool) (k : ℕ) (f : FragmentData) (new old : List Part) (given : SelectionTrees)
    (unmet : get_or visited k false ≡ false) (marked : later ≡ set visited k true) (there : slice_get (data_of defined) k ≡ Some f) (is : given ≡ f.below) (put : waiting new ≡ root_parts given ++ waiting old) where
  pub visit_leaves_fewer : length visited ≡ length (data_of defined) → k < length (data_of defined) → LeavesFewer defined visited old later new
  visit_leaves_fewer each within =
      let more : length new ≡ length (root_parts f.below) + length old =
      sym (length_waiting new) ∙ ap length put ∙ length-append (root_parts given) (waiting old) ∙ ap (λ b. length (root_parts b) + length (waiting old)) is ∙ ap (λ n. length (root_parts f.below) + n) (length_waiting old) in
      let once : unvisited later (data_of defined) + length (root_parts f.below) ≡ unvisited visited (data_of defined) =
      ap (λ l. unvisited l (data_of defined) + length (root_parts f.below)) marked ∙ ap (λ o. unvisited (set visited k true) (data_of defined) + count_at o) (sym there) ∙ visited_once visited (data_of defined) k each (omega (arith, within, each)) unmet in
      omega (arith, more, once)

  pub visit_enters : Enters defined k visited old later new
  visit_enters = λ n.
      rw (unmet) (ap₂ (λ m ps. fields_within (data_of defined) n m ps) (sym marked) (ap (λ o. parts_in o ++ waiting old) there ∙ ap (λ b. root_parts b ++ waiting old) (sym is) ∙ sym put))

-- ---- one step

module _ (defined : List Defined) (names later_names : List (Bor Name)) (visited later : List Bool) (old new : List Part) where
  pub field_steps : (name : Identifier) → map seen_name later_names ≡ map seen_name names ++ (name ∷ []) → Steps defined (field_part name) names visited old later_names visited old
  unfolding fields_within
  field_steps name noted = λ n.
      sym (ap (λ l. l ++ fields_within (data_of defined) n visited (waiting old)) noted ∙ append_assoc (map seen_name names) (name ∷ []) (fields_within (data_of defined) n visited (waiting old)))

  pub spread_steps : (name : List ℕ) (k : ℕ) → place_of_name fragment_name (data_of defined) name ≡ Some k → Enters defined k visited old later new → Steps defined (spread_part name) names visited old names later new
  unfolding fields_within
  spread_steps name k is enters = λ n. ap (λ l. map seen_name names ++ l) (ap (after_spread (data_of defined) (fields_within (data_of defined) n) visited (waiting old)) is ∙ enters n)

  pub unknown_steps : (name : List ℕ) → place_of_name fragment_name (data_of defined) name ≡ None → Steps defined (spread_part name) names visited old names visited old
  unfolding fields_within
  unknown_steps name is = λ n. ap (λ l. map seen_name names ++ l) (ap (after_spread (data_of defined) (fields_within (data_of defined) n) visited (waiting old)) is)

-- ---- the loop

-- The names that were found, and what the walk comes to in a number of steps that is enough, are the whole.
pub record Walks (defined : List Defined) (names : List (Bor Name)) (visited : List Bool) (parts : List Part) (whole : List Identifier) : Type 0 where
  pub steps : ℕ
  pub enough : length parts + unvisited visited (data_of defined) ≤ steps
  pub same : map seen_name names ++ fields_within (data_of defined) steps visited (waiting parts) ≡ whole

pub walk_begins : (defined : List Defined) (names : List (Bor Name)) (visited : List Bool) (parts old : List Part) (selections : SelectionTrees) (n : ℕ) → names ≡ [] → visited ≡ replicate n false → n ≡ length (data_of defined) → old ≡ []
    → waiting parts ≡ root_parts selections ++ waiting old → Walks defined names visited parts (root_fields (data_of defined) selections)
walk_begins defined names visited parts old selections n none blank long empty put =
    let steps : ℕ = length (root_parts selections) + count_parts (data_of defined) in
    let here : waiting parts ≡ root_parts selections = put ∙ ap (λ l. root_parts selections ++ waiting l) empty ∙ append-nil (root_parts selections) in
    let fresh : visited ≡ replicate (length (data_of defined)) false = blank ∙ ap (λ k. replicate k false) long in
    let count : length parts ≡ length (root_parts selections) = sym (length_waiting parts) ∙ ap length here in
    let left : unvisited visited (data_of defined) ≡ count_parts (data_of defined) = ap (λ m. unvisited m (data_of defined)) fresh ∙ none_visited (data_of defined) in
    record {
      steps = steps;
      enough = omega (arith, count, left);
      same = ap (λ l. map seen_name l ++ fields_within (data_of defined) steps visited (waiting parts)) none ∙ ap₂ (fields_within (data_of defined) steps) fresh here;
    }

pub walk_goes_on : (defined : List Defined) (names later_names : List (Bor Name)) (visited later : List Bool) (all parts new : List Part) (p : Part) (whole : List Identifier) → all ≡ parts ++ (p ∷ [])
    → LeavesFewer defined visited parts later new → Steps defined (part_data p) names visited parts later_names later new → Walks defined names visited all whole → Walks defined later_names later new whole
walk_goes_on defined names later_names visited later all parts new p whole is fewer goes w = by_steps w.steps w.enough w.same
  where
    long : length all ≡ suc (length parts)
    long = ap length is ∙ length-append parts (p ∷ []) ∙ omega arith

    by_steps : (steps : ℕ) → length all + unvisited visited (data_of defined) ≤ steps → map seen_name names ++ fields_within (data_of defined) steps visited (waiting all) ≡ whole → Walks defined later_names later new whole
    by_steps zero enough same = absurd (omega (arith, long, enough))
    by_steps (suc n) enough same = record {
      steps = n;
      enough = omega (arith, long, enough, fewer);
      same = sym (goes n) ∙ ap (λ l. map seen_name names ++ fields_within (data_of defined) (suc n) visited l) (sym (ap waiting is ∙ waiting_pushed parts p)) ∙ same;
    }

pub walk_ends : (defined : List Defined) (names : List (Bor Name)) (visited : List Bool) (parts : List Part) (whole : List Identifier) → parts ≡ [] → Walks defined names visited parts whole → map seen_name names ≡ whole
unfolding fields_within
walk_ends defined names visited parts whole none w =
    sym (append-nil (map seen_name names)) ∙ ap (λ l. map seen_name names ++ l) (sym (nothing_comes w.steps)) ∙ ap (λ l. map seen_name names ++ fields_within (data_of defined) w.steps visited (waiting l)) (sym none) ∙ w.same
  where
    nothing_comes : (n : ℕ) → fields_within (data_of defined) n visited [] ≡ []
    nothing_comes zero = refl
    nothing_comes (suc n) = refl

-- what pops nothing is empty
pub nothing_popped : {X : Type 0} (r : Option X) (old new : List X) (n m : ℕ) → r ≡ None → old ≡ new ++ option_to_list r → MatchOption r ((n ≡ 0) × (m ≡ 0)) (λ _. m + 1 ≡ n) → new ≡ take (n - 1) old → old ≡ []
nothing_popped None old new n m e is both rest = is ∙ append-nil new ∙ rest ∙ ap (λ k. take (k - 1) old) both.0
nothing_popped (Some x) old new n m e is both rest = absurd (cc)

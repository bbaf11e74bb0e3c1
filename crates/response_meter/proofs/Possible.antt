-- The possible types of a position, by their numbers and names.
use Rattle.std.proofs.Common.{◌≡◌, ◌⊎◌, inl, inr, ⊎_elim, ℕ, zero, suc, ◌+◌, ◌-◌, ◌/◌, ◌<◌, ◌≤◌, List, [], ◌∷◌, ◌++◌, length, map, drop, get_or, nat_eq, Bool, true, false, true≢false, cond, eqb, ◌||◌, bytes_eq, Option, Some, None, refl, sym, ap, ◌∙◌, arith, eqb-true, eq-eqb, drop-cons}
use Rattle.std.proofs.lemmas.Bool.{cases_Bool}
use Rattle.std.proofs.lemmas.List.{append_assoc, get_or_at, length-append, drop_all}
use Rattle.std.proofs.lemmas.Option.{same_Some}
use Rattle.std.specs.List.{list_any, position_from}
use Rattle.serde_json.specs.Data.{Data, null as json_null, boolean, number, string, array, object as json_object, Members}
use Rattle.serde_json.specs.Find.{get_member}
use Rattle.input_values.specs.declared.inputs.shape.TypeId.{TypeId}
use Rattle.schema_model.specs.Numbers.{type_number}
use Rattle.schema_model.specs.SchemaData.{TypeData, SchemaData, type_at, type_name_of, type_named, numbers_from, is_possible, all_possible, possible}
use Rattle.document_rules.specs.Sites.{is_composite, type_of_field}
use Rattle.schema_model.specs.declared.entries.FieldId.{FieldId}
use Rattle.plan_model.specs.SelectedFields.{Setting, Place, leaf_place, object_place, leaf_of, place_of}
use Rattle.plan_table.specs.declared.rows.NodeRow.{NodeRow}
use Rattle.plan_table.specs.Rows.{PossibleType, Below, leaf_below, objects_below}
use Rattle.plan_model.specs.Plans.{type_weight}
use Rattle.plan_table.specs.Tables.{setting_in, row_in, meaning_of, weighed, below_at, row_of}
use Rattle.response_model.specs.Plan.{LeafType, ObjectTypes, Nodes, no_node}
use Rattle.response_meter.specs.declared.readings.Reading.{Reading}
use Rattle.response_meter.specs.Metered.{name_in}
use Rattle.response_meter.specs.FirstFault.{only_type, is_text, type_named as type_of_name, type_told}
use Rattle.response_meter.specs.Nested.{types_with}
use Rattle.response_meter.specs.Types.{IsPossibleList, number_named, number_under, only_number, possible_below, types_alone, number_told}
use Rattle.response_meter.proofs.Passing.{some_none}

abbrev is_leaf : Below → Bool
is_leaf (leaf_below type weight fill) = true
is_leaf (objects_below possible) = false

-- ---- the first of a name

out_of_row : (P : ℕ → TypeData → Bool) (n m : ℕ) (ts : List TypeData) → n < m → list_any (nat_eq n) (numbers_from m P ts) ≡ false
out_of_row P n m [] less = refl
out_of_row P n m (t ∷ ts) less = either (P m t) (nat_eq n m) (list_any (nat_eq n)) (numbers_from (m + 1) P ts) apart (out_of_row P n (m + 1) ts (omega arith))
  where
    apart : nat_eq n m ≡ false
    apart = ⊎_elim (λ (e : eqb n m ≡ true). absurd (let same = eqb-true n m e in differ same)) (λ (e : eqb n m ≡ false). e) (cases_Bool (eqb n m))
      where
        differ : n ≡ m → ⊥
        differ same = omega arith

    either : (b c : Bool) (any : List ℕ → Bool) (rest : List ℕ) → c ≡ false → list_any (nat_eq n) rest ≡ false → list_any (nat_eq n) (cond b (m ∷ rest) rest) ≡ false
    either true c any rest e h = ap (λ (x : Bool). x || list_any (nat_eq n) rest) apart ∙ h
    either false c any rest e h = h

least : (t : TypeData → Bool) (n : ℕ) (ts : List TypeData) (T : ℕ) → position_from t n ts ≡ Some T → n ≤ T
least t n [] T h = some_none (sym h)
least t n (x ∷ ts) T h = by (t x) h (λ e. least t (n + 1) ts T e)
  where
    by : (b : Bool) → cond b (Some n) (position_from t (n + 1) ts) ≡ Some T → (position_from t (n + 1) ts ≡ Some T → n + 1 ≤ T) → n ≤ T
    by true e later = let same = same_Some n T e in omega arith
    by false e later = let more = later e in omega arith

apart : (n T : ℕ) → n < T → nat_eq T n ≡ false
apart n T less = ⊎_elim (λ (e : eqb T n ≡ true). absurd (let same = eqb-true T n e in differ same)) (λ (e : eqb T n ≡ false). e) (cases_Bool (eqb T n))
  where
    differ : T ≡ n → ⊥
    differ same = omega arith

module _ (s : SchemaData) (text : List ℕ) where
  -- the type in front, with those behind it
  with_head : (b c : Bool) (n T : ℕ) (rest : List ℕ) (found : Option ℕ) → cond b (Some n) found ≡ Some T → list_any (nat_eq T) (cond c (n ∷ rest) rest) ≡ true
      → bytes_eq (type_at s n).name text ≡ b → list_any (nat_eq n) rest ≡ false → (found ≡ Some T → n < T)
      → (found ≡ Some T → list_any (nat_eq T) rest ≡ true → number_named s rest text ≡ Some T) → number_named s (cond c (n ∷ rest) rest) text ≡ Some T
  with_head true true n T rest found h among named out later_on later = ap (λ (b : Bool). cond b (Some n) (number_named s rest text)) named ∙ h
  with_head true false n T rest found h among named out later_on later =
      absurd (true≢false (sym among ∙ ap (λ (U : ℕ). list_any (nat_eq U) rest) (sym (same_Some n T h)) ∙ out))
  with_head false true n T rest found h among named out later_on later =
      ap (λ (b : Bool). cond b (Some n) (number_named s rest text)) named
      ∙ later h (sym (ap (λ (b : Bool). b || list_any (nat_eq T) rest) (apart n T (later_on h))) ∙ among)
  with_head false false n T rest found h among named out later_on later = later h among

  first_among : (P : ℕ → TypeData → Bool) (front ts : List TypeData) (n T : ℕ) → s.types ≡ front ++ ts → length front ≡ n
      → position_from (λ t. bytes_eq (type_name_of t) text) n ts ≡ Some T → list_any (nat_eq T) (numbers_from n P ts) ≡ true → number_named s (numbers_from n P ts) text ≡ Some T
  first_among P front [] n T split count h among = some_none (sym h)
  first_among P front (t ∷ ts) n T split count h among =
      let own : type_at s n ≡ t = ap (λ (all : List TypeData). get_or all n s.other_type) split ∙ get_or_at front t ts s.other_type n count in
      with_head (bytes_eq (type_name_of t) text) (P n t) n T (numbers_from (n + 1) P ts) (position_from (λ x. bytes_eq (type_name_of x) text) (n + 1) ts) h among
      (ap (λ (x : TypeData). bytes_eq x.name text) own) (out_of_row P n (n + 1) ts (omega arith))
      (λ later. let more = least (λ x. bytes_eq (type_name_of x) text) (n + 1) ts T later in omega arith)
      (λ later rest. first_among P (front ++ t ∷ []) ts (n + 1) T (split ∙ sym (append_assoc front (t ∷ []) ts)) (longer front t n count) later rest)
    where
      longer : (front : List TypeData) (t : TypeData) (n : ℕ) → length front ≡ n → length (front ++ t ∷ []) ≡ n + 1
      longer front t n count = let whole = length-append front (t ∷ []) in omega arith

pub possible_is : (all types : List TypeData) (n c : ℕ) → ((P : ℕ → TypeData → Bool) × (get_or (all_possible n all types) c [] ≡ numbers_from 0 P all)) ⊎ (get_or (all_possible n all types) c [] ≡ [])
possible_is all [] n c = inr refl
possible_is all (t ∷ types) n zero = inl (is_possible t n, refl)
possible_is all (t ∷ types) n (suc c) = possible_is all types (n + 1) c

-- Where the first type of a name is among the possible types of a type, it is the first of that name there.
pub first_of_name_here : (s : SchemaData) (numbers : List ℕ) (text : List ℕ) (T : ℕ) → IsPossibleList s numbers → type_named s text ≡ Some T → list_any (nat_eq T) numbers ≡ true → number_named s numbers text ≡ Some T
first_of_name_here s numbers text T (c, is) found among = by (possible_is s.types s.types 0 c)
  where
    by : ((P : ℕ → TypeData → Bool) × (possible s c ≡ numbers_from 0 P s.types)) ⊎ (possible s c ≡ []) → number_named s numbers text ≡ Some T
    by (inl some) =
        let same = is ∙ some.1 in
        ap (λ (ns : List ℕ). number_named s ns text) same
        ∙ first_among s text some.0 [] s.types 0 T refl refl found (sym (ap (λ (ns : List ℕ). list_any (nat_eq T) ns) same) ∙ among)
    by (inr none) = absurd (true≢false (sym among ∙ ap (λ (ns : List ℕ). list_any (nat_eq T) ns) (is ∙ none)))

-- ---- the possible types of a row

numbers_weighed : (e : Setting) (Ts : List ℕ) → map (λ (t : PossibleType). t.number) (map (weighed e) Ts) ≡ Ts
numbers_weighed e [] = refl
numbers_weighed e (T ∷ Ts) = ap (λ (Us : List ℕ). T ∷ Us) (numbers_weighed e Ts)

module _ (e : Setting) where
  same_objects : (Ts Us : List ℕ) → objects_below (map (weighed e) Ts) ≡ objects_below (map (weighed e) Us) → Ts ≡ Us
  same_objects Ts Us h = sym (numbers_weighed e Ts) ∙ ap (λ (b : Below). map (λ (t : PossibleType). t.number) (possible_below b)) h ∙ numbers_weighed e Us

  no_leaf : {A : Type 0} (Ts : List PossibleType) (b : Below) → is_leaf b ≡ true → objects_below Ts ≡ b → A
  no_leaf Ts b leaf h = absurd (true≢false (sym leaf ∙ ap is_leaf (sym h)))

  of_field : (b : Bool) (of : ℕ) (Ts : List ℕ) → objects_below (map (weighed e) Ts) ≡ below_at e (cond b (object_place (possible e.schema of)) (leaf_of e of)) → IsPossibleList e.schema Ts
  of_field true of Ts h = (of, same_objects Ts (possible e.schema of) h)
  of_field false of Ts h = no_leaf (map (weighed e) Ts) (below_at e (leaf_of e of)) refl h

  of_meaning : (field : Option FieldId) (T : ℕ) (Ts : List ℕ) → objects_below (map (weighed e) Ts) ≡ below_at e (place_of e T (meaning_of field)) → IsPossibleList e.schema Ts
  of_meaning None T Ts h = no_leaf (map (weighed e) Ts) (below_at e (place_of e T (meaning_of None))) refl h
  of_meaning (Some field) T Ts h = of_field (is_composite e.schema (type_of_field e.schema field.number)) (type_of_field e.schema field.number) Ts h

  -- Objects that are seen below a row are of the possible types of a type.
  pub seen_possible : (row : NodeRow) (Ts : List ℕ) → objects_below (map (weighed e) Ts) ≡ (row_of e row).below → IsPossibleList e.schema Ts
  unfolding row_of
  seen_possible row Ts h = of_meaning row.field row.on.number Ts h

  weighed_at : (place : Place) → (Ts : List ℕ) × (possible_below (below_at e place) ≡ map (weighed e) Ts)
  weighed_at (leaf_place type weight fill) = ([], refl)
  weighed_at (object_place Ts) = (Ts, refl)

  pub weighed_below : (row : NodeRow) → (Ts : List ℕ) × (possible_below (row_of e row).below ≡ map (weighed e) Ts)
  unfolding row_of
  weighed_below row = weighed_at (place_of e row.on.number (meaning_of row.field))

-- ---- the type that an object says

module _ (s : SchemaData) (weight : ℕ → ℕ) (nodes : ℕ → Nodes) (alias : List ℕ) where
  abbrev named_types : List ℕ → ObjectTypes
  named_types Ts = types_with nodes (map (λ (T : ℕ). record { number = T; weight = weight T }) Ts)

  abbrev name_at : ℕ → List ℕ
  name_at T = (type_at s T).name

  nothing_named : (Ts : List ℕ) (o : Option Data) → ((T : ℕ) → is_text (name_at T) o ≡ false) → None ≡ type_of_name name_at alias (named_types Ts) o
  nothing_named [] o none = refl
  nothing_named (T ∷ Ts) o none = nothing_named Ts o none ∙ ap (λ (b : Bool). cond b (Some T) (type_of_name name_at alias (named_types Ts) o)) (sym (none T))

  text_named : (Ts : List ℕ) (text : List ℕ) → number_named s Ts text ≡ type_of_name name_at alias (named_types Ts) (Some (string text))
  text_named [] text = refl
  text_named (T ∷ Ts) text = ap (λ (o : Option ℕ). cond (bytes_eq (name_at T) text) (Some T) o) (text_named Ts text)

  pub number_under_is : (Ts : List ℕ) (o : Option Data) → number_under s Ts o ≡ type_of_name name_at alias (named_types Ts) o
  number_under_is Ts None = nothing_named Ts None (λ T. refl)
  number_under_is Ts (Some json_null) = nothing_named Ts (Some json_null) (λ T. refl)
  number_under_is Ts (Some (boolean b)) = nothing_named Ts (Some (boolean b)) (λ T. refl)
  number_under_is Ts (Some (number n)) = nothing_named Ts (Some (number n)) (λ T. refl)
  number_under_is Ts (Some (string text)) = text_named Ts text
  number_under_is Ts (Some (array ds)) = nothing_named Ts (Some (array ds)) (λ T. refl)
  number_under_is Ts (Some (json_object ms)) = nothing_named Ts (Some (json_object ms)) (λ T. refl)

  pub only_number_is : (Ts : List ℕ) → only_number Ts ≡ only_type (named_types Ts)
  only_number_is [] = refl
  only_number_is (T ∷ []) = refl
  only_number_is (T ∷ U ∷ Ts) = refl

-- ---- lists of numbers of types

some_or_true : (b : Bool) → b || true ≡ true
some_or_true true = refl
some_or_true false = refl

pub is_among : (numbers : List TypeId) (i w : ℕ) (d : TypeId) → i < length numbers → (get_or numbers i d).number ≡ w → list_any (nat_eq w) (map type_number numbers) ≡ true
is_among [] i w d less is = absurd (none less)
  where
    none : i < 0 → ⊥
    none l = omega arith
is_among (x ∷ xs) zero w d less is = ap (λ (b : Bool). b || list_any (nat_eq w) (map type_number xs)) (eq-eqb w x.number (sym is))
is_among (x ∷ xs) (suc i) w d less is = ap (λ (b : Bool). nat_eq w x.number || b) (is_among xs i w d (omega arith) is) ∙ some_or_true (nat_eq w x.number)

pub middle_within : (low high n : ℕ) → low < high → high ≤ n → low + (high - low) / 2 < n
middle_within low high n less most = omega arith

-- the types from the i-th on, by their names
pub named_from : (s : SchemaData) (types : List TypeId) (i : ℕ) (t : TypeId) (text : List ℕ) → i < length types → t ≡ get_or types i t
    → number_named s (map type_number (drop i types)) text ≡ cond (bytes_eq (type_at s t.number).name text) (Some t.number) (number_named s (map type_number (drop (i + 1) types)) text)
named_from s types i t text less is =
    let one_more : suc i ≡ i + 1 = omega arith in
    ap (λ (ts : List TypeId). number_named s (map type_number ts) text)
    (drop-cons types i t less ∙ ap (λ (x : TypeId). x ∷ drop (suc i) types) (sym is) ∙ ap (λ (j : ℕ). t ∷ drop j types) one_more)

pub named_here : (s : SchemaData) (types : List TypeId) (i : ℕ) (t : TypeId) (text : List ℕ) (whole : Option ℕ) → i < length types → t ≡ get_or types i t
    → number_named s (map type_number (drop i types)) text ≡ whole → bytes_eq (type_at s t.number).name text ≡ true → Some t.number ≡ whole
named_here s types i t text whole less is left same =
    sym (named_from s types i t text less is ∙ ap (λ (b : Bool). cond b (Some t.number) (number_named s (map type_number (drop (i + 1) types)) text)) same) ∙ left

pub named_later : (s : SchemaData) (types : List TypeId) (i : ℕ) (t : TypeId) (text : List ℕ) (whole : Option ℕ) → i < length types → t ≡ get_or types i t
    → number_named s (map type_number (drop i types)) text ≡ whole → bytes_eq (type_at s t.number).name text ≡ false → number_named s (map type_number (drop (i + 1) types)) text ≡ whole
named_later s types i t text whole less is left differs =
    sym (named_from s types i t text less is ∙ ap (λ (b : Bool). cond b (Some t.number) (number_named s (map type_number (drop (i + 1) types)) text)) differs) ∙ left

pub named_never : (s : SchemaData) (types : List TypeId) (i : ℕ) (text : List ℕ) (whole : Option ℕ) → length types ≤ i
    → number_named s (map type_number (drop i types)) text ≡ whole → None ≡ whole
named_never s types i text whole most left = sym (ap (λ (ts : List TypeId). number_named s (map type_number ts) text) (drop_all i types most)) ∙ left

-- ---- the type that an object says, below a row

module _ (by : Reading) (row : NodeRow) (ms : Members) where
  abbrev told_by : Bool → Below → Option ℕ
  told_by asked b = type_told (name_in by.of.now) by.alias.now asked (types_alone (possible_below b)) ms

  pub told_asked : (Ts : List ℕ) (o : Option ℕ) → objects_below (map (weighed (setting_in by.of.now)) Ts) ≡ (row_in by.of.now row).below → row.asked ≡ true
      → o ≡ number_under (setting_in by.of.now).schema Ts (get_member by.alias.now ms) → o ≡ number_told by (row_in by.of.now row) ms
  unfolding row_of
  told_asked Ts o seen asked found =
      found
      ∙ number_under_is (setting_in by.of.now).schema (type_weight (setting_in by.of.now)) (λ T. no_node) by.alias.now Ts (get_member by.alias.now ms)
      ∙ ap (λ (b : Bool). told_by b (objects_below (map (weighed (setting_in by.of.now)) Ts))) (sym asked)
      ∙ ap (λ (b : Below). told_by row.asked b) seen

  pub told_alone : (Ts : List ℕ) (o : Option ℕ) → objects_below (map (weighed (setting_in by.of.now)) Ts) ≡ (row_in by.of.now row).below → row.asked ≡ false
      → o ≡ only_number Ts → o ≡ number_told by (row_in by.of.now row) ms
  unfolding row_of
  told_alone Ts o seen asked found =
      found
      ∙ only_number_is (setting_in by.of.now).schema (type_weight (setting_in by.of.now)) (λ T. no_node) by.alias.now Ts
      ∙ ap (λ (b : Bool). told_by b (objects_below (map (weighed (setting_in by.of.now)) Ts))) (sym asked)
      ∙ ap (λ (b : Below). told_by row.asked b) seen

  told_of_none : (asked : Bool) (type : LeafType) (weight : ℕ) (fill : Data) → None ≡ told_by asked (leaf_below type weight fill)
  told_of_none true type weight fill = refl
  told_of_none false type weight fill = refl

  pub told_never : (type : LeafType) (weight : ℕ) (fill : Data) → leaf_below type weight fill ≡ (row_in by.of.now row).below → None ≡ number_told by (row_in by.of.now row) ms
  told_never type weight fill seen = told_of_none (row_in by.of.now row).selected.asked type weight fill ∙ ap (λ (b : Below). told_by (row_in by.of.now row).selected.asked b) seen

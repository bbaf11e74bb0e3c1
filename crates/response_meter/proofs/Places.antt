-- A value at its place: null, a leaf, an object, a list or an entry.
use Rattle.std.proofs.Common.{◌≡◌, ◌+◌, ℕ, List, [], ◌∷◌, ◌++◌, map, Bool, true, false, true≢false, cond, eqb, ◌||◌, is_some, codes, option_map, Option, Some, None, Result, Ok, Err, refl, sym, ap, ap₂, ◌∙◌, subst, arith, append_assoc, eqb-true}
use Rattle.std.specs.Option.{option_or}
use Rattle.cost_num.specs.Capped.{capped}
use Rattle.cost_num.specs.declared.Cost.{Cost}
use Rattle.serde_json.specs.Data.{Data, null as json_null, boolean, number, string, array, object as json_object, Items, Members}
use Rattle.serde_json.specs.Find.{get_member, as_null, as_array, as_object}
use Rattle.serde_json.specs.Events.{items_len}
use Rattle.serde_json.specs.Written.{compact_text}
use Rattle.response_model.specs.Plan.{Form, single, listed, LeafType, type_name, numbered, Plan, leaf_plan, position, ObjectTypes, Nodes, is_possible, weight_of, nodes_of}
use Rattle.response_model.specs.Response.{Tree, null, leaf, list_of, object, Elements, Entries, is_null}
use Rattle.response_model.specs.Cost.{Part, types, fields, value_cost, entry_cost, cost, entries_cost}
use Rattle.response_model.specs.ResponseText.{key_text}
use Rattle.response_model.specs.WrittenJson.{Appends}
use Rattle.response_model.specs.AnswerTexts.{Behind, IsLeafText, IsTreeText, AreElementsText, AreEntriesText}
use Rattle.plan_model.specs.SelectedFields.{Setting, fill_of}
use Rattle.input_values.specs.declared.inputs.shape.TypeId.{TypeId}
use Rattle.schema_model.specs.SchemaData.{type_at}
use Rattle.plan_table.specs.declared.lookups.Below.TheVariants.{TypeName, Leaf}
use Rattle.plan_table.specs.Looked.{below_seen}
use Rattle.plan_model.specs.Plans.{type_weight}
use Rattle.plan_table.specs.Rows.{PossibleType, Below, leaf_below, objects_below}
use Rattle.plan_table.specs.Tables.{row_in, weighed}
use Rattle.plan_table.specs.TableBounds.{holds_in}
use Rattle.response_meter.specs.declared.fault.MeterFault.{MeterFault}
use Rattle.response_meter.specs.declared.fault.Why.TheVariants.{BadLeaf, NullHere, NotList, MissingKey, BadType, BadObject}
use Rattle.response_meter.specs.declared.nested.Node.{Node}
use Rattle.response_meter.specs.declared.nested.Node.TheViews.{out-Node}
use Rattle.response_meter.specs.declared.readings.Reading.{Reading}
use Rattle.response_meter.specs.Faults.{Fault, not_response, size_broken, tested, given, at_step, key_step}
use Rattle.response_meter.specs.FirstFault as tests
use Rattle.response_meter.specs.FirstFault.{size_fault, items_fault, list_fault, place_fault, is_leaf, type_told}
use Rattle.response_meter.specs.Metered.{name_in}
use Rattle.response_meter.specs.Nested.{types_with, plan_with, OneNode, types_of}
use Rattle.response_meter.specs.Trees as trees
use Rattle.response_meter.specs.Trees.{tree_of, items_tree, list_tree, place_tree}
use Rattle.response_meter.specs.Types.{possible_below}
use Rattle.response_meter.specs.Walks.{setting, value_fault, value_tree, member_entries, one_node, one_fault, one_tree, field_fault, field_tree, entry_fault, entry_tree, object_fault, object_cost, objects_of, Measures, MeasuresTree, MeasuresElements, MeasuresValue, MeasuresPlace, MeasuresPosition, MeasuresObject, MeasuresEntry, MeasuresList, MeasuresItems, MeasuresItem}
use Rattle.response_meter.proofs.Left.{tells_same}
use Rattle.response_meter.proofs.Opened.{node_opened}
use Rattle.response_meter.proofs.Passing.{told_type}

-- what was measured, of the same in other words
pub measures_as : (before after : List ℕ) (r : Result Cost MeterFault) (f g : Option Fault) (costs sums : Part → ℕ) (Is Js : List ℕ → Type 0)
    → f ≡ g → costs types ≡ sums types → costs fields ≡ sums fields → ((text : List ℕ) → Is text → Js text) → Measures before after r f costs Is → Measures before after r g sums Js
measures_as before after (Ok c) f g costs sums Is Js e a b to m = let part = m.3 in (sym e ∙ m.0, m.1 ∙ ap capped a, m.2 ∙ ap capped b, (part.0, to part.0 part.1, part.2))
measures_as before after (Err x) f g costs sums Is Js e a b to m = tells_same x f g e m

pub tree_as : (before after : List ℕ) (r : Result Cost MeterFault) (f g : Option Fault) (plan : Plan) (t u : Tree) → f ≡ g → t ≡ u → MeasuresTree before after r f plan t → MeasuresTree before after r g plan u
tree_as before after r f g plan t u e s m =
    measures_as before after r f g _ _ (IsTreeText t) (IsTreeText u) e (ap (λ x. cost types plan x) s) (ap (λ x. cost fields plan x) s) (λ text is. subst (λ x. IsTreeText x text) s is) m

-- what is written behind a text, and the text before it
pub behind_appended : (before mid after front : List ℕ) (Is : List ℕ → Type 0) → mid ≡ before ++ front → Appends Is mid after → Appends (Behind front Is) before after
behind_appended before mid after front Is w part = (front ++ part.0, (part.0, refl, part.1), part.2 ∙ ap (λ x. x ++ part.0) w ∙ append_assoc before front part.0)

-- the two tests of null
pub null_told : (d : Data) → is_some (as_null d) ≡ is_null d
null_told json_null = refl
null_told (boolean b) = refl
null_told (number n) = refl
null_told (string s) = refl
null_told (array ds) = refl
null_told (json_object ms) = refl

-- ---- the types of a position, where the nodes of each are given

module _ (e : Setting) (nodes : ℕ → Nodes) where
  abbrev pub types_in : List ℕ → ObjectTypes
  types_in Ts = types_with nodes (map (weighed e) Ts)

  nodes_found : (Ts : List ℕ) (T : ℕ) → is_possible T (types_in Ts) ≡ true → nodes_of T (types_in Ts) ≡ nodes T
  nodes_found [] T is = absurd (true≢false (sym is))
  nodes_found (U ∷ Ts) T is = by (eqb U T) refl is (λ h. nodes_found Ts T h)
    where
      by : (b : Bool) → eqb U T ≡ b → (b || is_possible T (types_in Ts)) ≡ true → (is_possible T (types_in Ts) ≡ true → nodes_of T (types_in Ts) ≡ nodes T) → cond b (nodes U) (nodes_of T (types_in Ts)) ≡ nodes T
      by true same is later = ap nodes (eqb-true U T same)
      by false same is later = later is

  weight_found : (Ts : List ℕ) (T : ℕ) → is_possible T (types_in Ts) ≡ true → weight_of T (types_in Ts) ≡ type_weight e T
  weight_found [] T is = absurd (true≢false (sym is))
  weight_found (U ∷ Ts) T is = by (eqb U T) refl is (λ h. weight_found Ts T h)
    where
      by : (b : Bool) → eqb U T ≡ b → (b || is_possible T (types_in Ts)) ≡ true → (is_possible T (types_in Ts) ≡ true → weight_of T (types_in Ts) ≡ type_weight e T)
          → cond b (type_weight e U) (weight_of T (types_in Ts)) ≡ type_weight e T
      by true same is later = ap (type_weight e) (eqb-true U T same)
      by false same is later = later is

module _ (by : Reading) where
  -- the tests and the entries of an object of a type
  fault_found : (nodes : ℕ → Nodes) (asked : Bool) (Ts : List ℕ) (T : ℕ) (ms : Members) → is_possible T (types_in (setting by) nodes Ts) ≡ true
      → tests.object_fault (holds_in by.of.now) (name_in by.of.now) by.alias.now asked T (types_in (setting by) nodes Ts) ms ≡ object_fault by asked (nodes T) ms
  fault_found nodes asked [] T ms is = absurd (true≢false (sym is))
  fault_found nodes asked (U ∷ Ts) T ms is = choose (eqb U T) refl is (λ h. fault_found nodes asked Ts T ms h)
    where
      choose : (b : Bool) → eqb U T ≡ b → (b || is_possible T (types_in (setting by) nodes Ts)) ≡ true
          → (is_possible T (types_in (setting by) nodes Ts) ≡ true
          → tests.object_fault (holds_in by.of.now) (name_in by.of.now) by.alias.now asked T (types_in (setting by) nodes Ts) ms ≡ object_fault by asked (nodes T) ms)
          → cond b (object_fault by asked (nodes U) ms) (tests.object_fault (holds_in by.of.now) (name_in by.of.now) by.alias.now asked T (types_in (setting by) nodes Ts) ms) ≡ object_fault by asked (nodes T) ms
      choose true same is later = ap (λ (x : ℕ). object_fault by asked (nodes x) ms) (eqb-true U T same)
      choose false same is later = later is

  entries_found : (nodes : ℕ → Nodes) (Ts : List ℕ) (T : ℕ) (ms : Members) → is_possible T (types_in (setting by) nodes Ts) ≡ true
      → trees.object_entries (name_in by.of.now) by.alias.now T (types_in (setting by) nodes Ts) ms ≡ member_entries by (nodes T) ms
  entries_found nodes [] T ms is = absurd (true≢false (sym is))
  entries_found nodes (U ∷ Ts) T ms is = choose (eqb U T) refl is (λ h. entries_found nodes Ts T ms h)
    where
      choose : (b : Bool) → eqb U T ≡ b → (b || is_possible T (types_in (setting by) nodes Ts)) ≡ true
          → (is_possible T (types_in (setting by) nodes Ts) ≡ true → trees.object_entries (name_in by.of.now) by.alias.now T (types_in (setting by) nodes Ts) ms ≡ member_entries by (nodes T) ms)
          → cond b (member_entries by (nodes U) ms) (trees.object_entries (name_in by.of.now) by.alias.now T (types_in (setting by) nodes Ts) ms) ≡ member_entries by (nodes T) ms
      choose true same is later = ap (λ (x : ℕ). member_entries by (nodes x) ms) (eqb-true U T same)
      choose false same is later = later is

  -- ---- a value below a node

  abbrev plan_at : (ℕ → Nodes) → List ℕ → Plan
  plan_at nodes Ts = position (types_in (setting by) nodes Ts)

  abbrev told : Bool → (ℕ → Nodes) → List ℕ → Members → Option ℕ
  told asked nodes Ts ms = type_told (name_in by.of.now) by.alias.now asked (types_in (setting by) nodes Ts) ms

  pub not_object : (asked : Bool) (nodes : ℕ → Nodes) (Ts : List ℕ) (d : Data) → None ≡ as_object d → Some (not_response [] BadObject) ≡ value_fault by asked (plan_at nodes Ts) d
  not_object asked nodes Ts d o =
      ap (λ (x : Option Members). given x BadObject (λ ms. given (told asked nodes Ts ms) BadType (λ T. tests.object_fault (holds_in by.of.now) (name_in by.of.now) by.alias.now asked T (types_in (setting by) nodes Ts) ms))) o

  pub no_type_told : (asked : Bool) (nodes : ℕ → Nodes) (Ts : List ℕ) (d : Data) (ms : Members) → Some ms ≡ as_object d → None ≡ told asked nodes Ts ms → Some (not_response [] BadType) ≡ value_fault by asked (plan_at nodes Ts) d
  no_type_told asked nodes Ts d ms o t =
      ap (λ (x : Option ℕ). given x BadType (λ T. tests.object_fault (holds_in by.of.now) (name_in by.of.now) by.alias.now asked T (types_in (setting by) nodes Ts) ms)) t
      ∙ ap (λ (x : Option Members). given x BadObject (λ ms. given (told asked nodes Ts ms) BadType (λ T. tests.object_fault (holds_in by.of.now) (name_in by.of.now) by.alias.now asked T (types_in (setting by) nodes Ts) ms))) o

  pub object_measured : (before after : List ℕ) (r : Result Cost MeterFault) (asked : Bool) (nodes : ℕ → Nodes) (Ts : List ℕ) (T : ℕ) (d : Data) (ms : Members)
      → Some ms ≡ as_object d → Some T ≡ told asked nodes Ts ms → MeasuresObject by before after r asked T (nodes T) ms → MeasuresPosition by before after r asked (plan_at nodes Ts) d
  object_measured before after r asked nodes Ts T d ms o t m =
      let possible = types_in (setting by) nodes Ts in
      let is = (told_type (name_in by.of.now) by.alias.now asked possible ms T (sym t)).1 in
      let es = trees.object_entries (name_in by.of.now) by.alias.now T possible ms in
      let same = entries_found nodes Ts T ms is in
      let tree : value_tree by asked (plan_at nodes Ts) d ≡ object T es =
      sym (ap (λ (x : Option Members). tree_of x (λ ms. tree_of (told asked nodes Ts ms) (λ T. object T (trees.object_entries (name_in by.of.now) by.alias.now T possible ms)))) o)
      ∙ sym (ap (λ (x : Option ℕ). tree_of x (λ T. object T (trees.object_entries (name_in by.of.now) by.alias.now T possible ms))) t) in
      tree_as before after r _ _ (plan_at nodes Ts) (object T es) (value_tree by asked (plan_at nodes Ts) d)
      (ap (λ (x : Option ℕ). given x BadType (λ T. tests.object_fault (holds_in by.of.now) (name_in by.of.now) by.alias.now asked T possible ms)) t
      ∙ ap (λ (x : Option Members). given x BadObject (λ ms. given (told asked nodes Ts ms) BadType (λ T. tests.object_fault (holds_in by.of.now) (name_in by.of.now) by.alias.now asked T possible ms))) o)
      (sym tree)
      (measures_as before after r (object_fault by asked (nodes T) ms) (tests.object_fault (holds_in by.of.now) (name_in by.of.now) by.alias.now asked T possible ms)
      (object_cost by T (nodes T) ms) (λ part. cost part (plan_at nodes Ts) (object T es)) (Behind (codes "{") (AreEntriesText [] (member_entries by (nodes T) ms))) (IsTreeText (object T es))
      (sym (fault_found nodes asked Ts T ms is)) (costs types T es possible same is) (costs fields T es possible same is)
      (λ text is. subst (λ (x : Entries). Behind (codes "{") (AreEntriesText [] x) text) (sym same) is) m)
    where
      costs : (part : Part) (T : ℕ) (es : Entries) (possible : ObjectTypes) → es ≡ member_entries by (nodes T) ms → is_possible T (types_in (setting by) nodes Ts) ≡ true
          → object_cost by T (nodes T) ms part ≡ value_cost part (weight_of T (types_in (setting by) nodes Ts)) + entries_cost part (nodes_of T (types_in (setting by) nodes Ts)) es
      costs part T es possible same is =
          ap (λ (w : ℕ). value_cost part w + entries_cost part (nodes T) (member_entries by (nodes T) ms)) (sym (weight_found (setting by) nodes Ts T is))
          ∙ ap₂ (λ (ns : Nodes) (x : Entries). value_cost part (weight_of T (types_in (setting by) nodes Ts)) + entries_cost part ns x) (sym (nodes_found (setting by) nodes Ts T is)) (sym same)

  opened_below : (n : Node) (b : Below) → (row_in by.of.now (out-Node n).row.now).below ≡ b
      → ((row_in by.of.now (out-Node n).row.now).selected, plan_with (types_of (setting by) (out-Node n).below) b) ≡ one_node by n
  opened_below n b is = ap (λ (x : Below). ((row_in by.of.now (out-Node n).row.now).selected, plan_with (types_of (setting by) (out-Node n).below) x)) (sym is) ∙ sym (node_opened (setting by) n)

  pub value_leaf : (before after : List ℕ) (r : Result Cost MeterFault) (n : Node) (type : LeafType) (weight : ℕ) (fill d : Data) (b : Bool)
      → (row_in by.of.now (out-Node n).row.now).below ≡ leaf_below type weight fill → b ≡ is_leaf (holds_in by.of.now) type fill d
      → Measures before after r (tested b BadLeaf None) (λ part. value_cost part weight) (IsLeafText d) → MeasuresValue by before after r (one_node by n) d
  value_leaf before after r n type weight fill d b is holds m =
      subst (λ (f : OneNode). MeasuresValue by before after r f d) (opened_below n (leaf_below type weight fill) is)
      (measures_as before after r (tested b BadLeaf None) (tested (is_leaf (holds_in by.of.now) type fill d) BadLeaf None) _ (λ part. cost part (leaf_plan type weight fill) (leaf d)) (IsLeafText d) (IsTreeText (leaf d)) (ap (λ (x : Bool). tested x BadLeaf None) holds) refl refl (λ text is. is) m)

  -- the name of the type, and a leaf of a type
  pub value_name : (before after : List ℕ) (r : Result Cost MeterFault) (n : Node) (d : Data) (b : Bool)
      → below_seen (setting by) (out-Node n).row.now.on.number TypeName ≡ (row_in by.of.now (out-Node n).row.now).below
      → b ≡ tests.is_text (type_at (setting by).schema (out-Node n).row.now.on.number).name (Some d)
      → Measures before after r (tested b BadLeaf None) (λ part. value_cost part 0) (IsLeafText d) → MeasuresValue by before after r (one_node by n) d
  value_name before after r n d b seen holds m =
      value_leaf before after r n type_name 0 (string (type_at (setting by).schema (out-Node n).row.now.on.number).name) d b (sym seen) holds m

  pub value_of_type : (before after : List ℕ) (r : Result Cost MeterFault) (n : Node) (of : TypeId) (weight : ℕ) (d : Data) (b : Bool)
      → below_seen (setting by) (out-Node n).row.now.on.number (Leaf of) ≡ (row_in by.of.now (out-Node n).row.now).below → b ≡ holds_in by.of.now of.number d → weight ≡ type_weight (setting by) of.number
      → Measures before after r (tested b BadLeaf None) (λ part. value_cost part weight) (IsLeafText d) → MeasuresValue by before after r (one_node by n) d
  value_of_type before after r n of weight d b seen holds weighs m =
      value_leaf before after r n (numbered of.number) (type_weight (setting by) of.number) (fill_of (setting by).schema of.number) d b (sym seen) holds
      (subst (λ (w : ℕ). Measures before after r (tested b BadLeaf None) (λ part. value_cost part w) (IsLeafText d)) weighs m)

  pub value_object : (before after : List ℕ) (r : Result Cost MeterFault) (n : Node) (possible : List PossibleType) (d : Data)
      → (row_in by.of.now (out-Node n).row.now).below ≡ objects_below possible
      → MeasuresPosition by before after r (row_in by.of.now (out-Node n).row.now).selected.asked (objects_of by n) d → MeasuresValue by before after r (one_node by n) d
  value_object before after r n possible d is m =
      subst (λ (f : OneNode). MeasuresValue by before after r f d) (opened_below n (objects_below possible) is)
      (subst (λ (ps : List PossibleType). MeasuresPosition by before after r (row_in by.of.now (out-Node n).row.now).selected.asked (position (types_with (types_of (setting by) (out-Node n).below) ps)) d) (ap possible_below is) m)

  -- ---- a value or null

  pub item_null : (before after : List ℕ) (r : Result Cost MeterFault) (nullable : Bool) (f : OneNode) (d : Data)
      → is_null d ≡ true → Measures before after r (tested nullable NullHere None) (λ part. 0) (λ text. text ≡ compact_text json_null) → MeasuresItem by before after r nullable f d
  item_null before after r nullable f d is m =
      tree_as before after r (tested nullable NullHere None) _ f.1 null _ (ap (λ (b : Bool). cond b (tested nullable NullHere None) (one_fault by f d)) (sym is)) (ap (λ (b : Bool). cond b null (one_tree by f d)) (sym is))
      (measures_as before after r _ _ _ _ (λ text. text ≡ compact_text json_null) (IsTreeText null) refl refl refl (λ text is. is) m)

  pub item_some : (before after : List ℕ) (r : Result Cost MeterFault) (nullable : Bool) (f : OneNode) (d : Data)
      → is_null d ≡ false → MeasuresValue by before after r f d → MeasuresItem by before after r nullable f d
  item_some before after r nullable f d is m =
      tree_as before after r (one_fault by f d) _ f.1 (one_tree by f d) _ (ap (λ (b : Bool). cond b (tested nullable NullHere None) (one_fault by f d)) (sym is)) (ap (λ (b : Bool). cond b null (one_tree by f d)) (sym is)) m

  -- ---- a value as a whole

  pub place_single : (before after : List ℕ) (r : Result Cost MeterFault) (nullable : Bool) (f : OneNode) (d : Data) → f.0.form ≡ single nullable → MeasuresItem by before after r nullable f d → MeasuresPlace by before after r f d
  place_single before after r nullable f d is m =
      tree_as before after r _ (field_fault by f d) f.1 _ (field_tree by f d)
      (ap (λ (form : Form). place_fault (λ v. one_fault by f v) form f.0.size d) (sym is)) (ap (λ (form : Form). place_tree (λ v. one_tree by f v) form d) (sym is)) m

  pub place_null : (before after : List ℕ) (r : Result Cost MeterFault) (nullable item_nullable : Bool) (f : OneNode) (d : Data) → f.0.form ≡ listed nullable item_nullable
      → is_null d ≡ true → Measures before after r (tested nullable NullHere None) (λ part. 0) (λ text. text ≡ compact_text json_null) → MeasuresPlace by before after r f d
  place_null before after r nullable i f d is none m =
      let faults = list_fault (λ v. one_fault by f v) i f.0.size d in
      let below = list_tree (λ v. one_tree by f v) d in
      tree_as before after r (tested nullable NullHere None) (field_fault by f d) f.1 null (field_tree by f d)
      (ap (λ (b : Bool). cond b (tested nullable NullHere None) faults) (sym none) ∙ ap (λ (form : Form). place_fault (λ v. one_fault by f v) form f.0.size d) (sym is))
      (ap (λ (b : Bool). cond b null below) (sym none) ∙ ap (λ (form : Form). place_tree (λ v. one_tree by f v) form d) (sym is))
      (measures_as before after r _ _ _ _ (λ text. text ≡ compact_text json_null) (IsTreeText null) refl refl refl (λ text is. is) m)

  pub place_list : (before after : List ℕ) (r : Result Cost MeterFault) (nullable item_nullable : Bool) (f : OneNode) (d : Data) → f.0.form ≡ listed nullable item_nullable
      → is_null d ≡ false → MeasuresList by before after r item_nullable f d → MeasuresPlace by before after r f d
  place_list before after r nullable i f d is some m =
      let faults = list_fault (λ v. one_fault by f v) i f.0.size d in
      let below = list_tree (λ v. one_tree by f v) d in
      tree_as before after r faults (field_fault by f d) f.1 below (field_tree by f d)
      (ap (λ (b : Bool). cond b (tested nullable NullHere None) faults) (sym some) ∙ ap (λ (form : Form). place_fault (λ v. one_fault by f v) form f.0.size d) (sym is))
      (ap (λ (b : Bool). cond b null below) (sym some) ∙ ap (λ (form : Form). place_tree (λ v. one_tree by f v) form d) (sym is)) m

  -- ---- a list that is not too long

  pub list_measured : (before mid after : List ℕ) (r : Result Cost MeterFault) (nullable : Bool) (f : OneNode) (size : Option ℕ) (d : Data) (ds : Items)
      → size ≡ f.0.size → Some ds ≡ as_array d → size_fault size (items_len ds) ≡ None → mid ≡ before ++ codes "["
      → MeasuresItems by mid after r nullable f ds → MeasuresList by before after r nullable f d
  list_measured before mid after r nullable f size d ds own a e w m =
      let inner : Data → Option Fault = λ v. one_fault by f v in
      let below : Data → Tree = λ v. one_tree by f v in
      tree_as before after r (items_fault inner nullable 0 ds) _ f.1 (list_of (items_tree below ds)) _
      (sym (ap (λ x. option_or x (items_fault inner nullable 0 ds)) e) ∙ ap (λ o. given o NotList (λ xs. option_or (size_fault size (items_len xs)) (items_fault inner nullable 0 xs))) a
      ∙ ap (λ (s : Option ℕ). list_fault inner nullable s d) own)
      (ap (λ o. tree_of o (λ xs. list_of (items_tree below xs))) a)
      (opened before mid after r (items_fault inner nullable 0 ds) f.1 (items_tree below ds) w m)
    where
      opened : (before mid after : List ℕ) (r : Result Cost MeterFault) (f : Option Fault) (plan : Plan) (ts : Elements) → mid ≡ before ++ codes "["
          → MeasuresElements mid after r f plan ts → MeasuresTree before after r f plan (list_of ts)
      opened before mid after (Ok c) f plan ts w m = (m.0, m.1, m.2, behind_appended before mid after (codes "[") (AreElementsText [] ts) w m.3)
      opened before mid after (Err x) f plan ts w m = m

  -- ---- an entry

  pub entry_found : (f : OneNode) (key : List ℕ) (ms : Members) (o : Option Data) → key ≡ f.0.key → o ≡ get_member key ms → at_step (key_step key) (given o MissingKey (λ d. field_fault by f d)) ≡ entry_fault by f ms
  entry_found f key ms o k e = ap (λ x. at_step (key_step key) (given x MissingKey (λ d. field_fault by f d))) e ∙ ap (λ x. at_step (key_step x) (given (get_member x ms) MissingKey (λ d. field_fault by f d))) k

  pub entry_measured : (before mid after : List ℕ) (c s : Cost) (f : OneNode) (key : List ℕ) (w : ℕ) (d : Data) (ms : Members)
      → key ≡ f.0.key → Some d ≡ get_member key ms → mid ≡ before ++ key_text key → MeasuresPlace by mid after (Ok c) f d
      → w ≡ capped (entry_cost fields f.0) → s.types ≡ capped (0 + c.types) → s.fields ≡ capped (w + c.fields) → MeasuresEntry by before after (Ok s) f ms
  entry_measured before mid after c s f key w d ms k e write m weighs p q =
      let tree : field_tree by f d ≡ entry_tree by f ms = ap (λ o. tree_of o (λ x. field_tree by f x)) (e ∙ ap (λ x. get_member x ms) k) in
      measures_as before after (Ok s) None (entry_fault by f ms)
      (λ part. entry_cost part f.0 + cost part f.1 (field_tree by f d)) (λ part. entry_cost part f.0 + cost part f.1 (entry_tree by f ms))
      (Behind (key_text f.0.key) (IsTreeText (field_tree by f d))) (Behind (key_text f.0.key) (IsTreeText (entry_tree by f ms)))
      (sym (ap (at_step (key_step key)) m.0) ∙ entry_found f key ms (Some d) k e)
      (ap (λ t. entry_cost types f.0 + cost types f.1 t) tree)
      (ap (λ t. entry_cost fields f.0 + cost fields f.1 t) tree)
      (λ text is. subst (λ t. Behind (key_text f.0.key) (IsTreeText t) text) tree is) (
        refl,
        sum_types c.types s.types (cost types f.1 (field_tree by f d)) m.1 p,
        sum_fields (entry_cost fields f.0) w c.fields s.fields (cost fields f.1 (field_tree by f d)) weighs m.2 q,
        behind_appended before mid after (key_text f.0.key) (IsTreeText (field_tree by f d)) (write ∙ ap (λ x. before ++ key_text x) k) m.3,
      )
    where
      sum_types : (c s t : ℕ) → c ≡ capped t → s ≡ capped (0 + c) → s ≡ capped (0 + t)
      sum_types c s t e q = omega arith

      sum_fields : (own w c s t : ℕ) → w ≡ capped own → c ≡ capped t → s ≡ capped (w + c) → s ≡ capped (own + t)
      sum_fields own w c s t o e q = omega arith

-- a list that is too long
pub list_broken : (inner : Data → Option Fault) (nullable : Bool) (size : Option ℕ) (d : Data) (ds : Items) (n : ℕ) (o : Option ℕ) (m : ℕ)
    → Some ds ≡ as_array d → items_len ds ≡ n → size_fault size n ≡ option_map (λ declared. size_broken [] declared n) o → o ≡ Some m → Some (size_broken [] m n) ≡ list_fault inner nullable size d
list_broken inner nullable size d ds n o m a same told is =
    let e : size_fault size (items_len ds) ≡ Some (size_broken [] m n) = ap (λ k. size_fault size k) same ∙ told ∙ ap (option_map (λ declared. size_broken [] declared n)) is in
    sym (ap (λ x. option_or x (items_fault inner nullable 0 ds)) e) ∙ ap (λ o. given o NotList (λ xs. option_or (size_fault size (items_len xs)) (items_fault inner nullable 0 xs))) a

pub size_kept : (size : Option ℕ) (ds : Items) (n : ℕ) (o : Option ℕ) → items_len ds ≡ n → size_fault size n ≡ option_map (λ declared. size_broken [] declared n) o → o ≡ None → size_fault size (items_len ds) ≡ None
size_kept size ds n o same told is = ap (λ k. size_fault size k) same ∙ told ∙ ap (option_map (λ declared. size_broken [] declared n)) is

-- An object at a position, and the data of a reply.
use Rattle.std.proofs.Common.{◌≡◌, ℕ, List, [], ◌∷◌, map, Bool, true, false, cond, Option, Some, None, Result, refl, sym, ap, ◌∙◌, subst}
use Rattle.cost_num.specs.declared.Cost.{Cost}
use Rattle.serde_json.specs.Data.{Data, null as json_null, Members}
use Rattle.serde_json.specs.Find.{get_member, as_object}
use Rattle.serde_json.specs.Written.{compact_text}
use Rattle.response_model.specs.Plan.{Plan, position, ObjectTypes, Nodes, no_node}
use Rattle.response_model.specs.Response.{null, is_null}
use Rattle.response_model.specs.AnswerTexts.{IsTreeText}
use Rattle.input_values.specs.declared.inputs.shape.TypeId.{TypeId}
use Rattle.plan_table.specs.Rows.{PossibleType}
use Rattle.plan_table.specs.Tables.{row_in, weighed}
use Rattle.plan_table.specs.TableBounds.{holds_in}
use Rattle.response_meter.specs.declared.fault.MeterFault.{MeterFault}
use Rattle.response_meter.specs.declared.fault.Why.TheVariants.{NullHere, BadType, BadObject}
use Rattle.response_meter.specs.declared.nested.Node.{Node}
use Rattle.response_meter.specs.declared.nested.Types.{Types}
use Rattle.response_meter.specs.declared.nested.Node.TheViews.{out-Node}
use Rattle.response_meter.specs.declared.readings.Reading.{Reading}
use Rattle.response_meter.specs.Faults.{Fault, not_response, tested, given}
use Rattle.response_meter.specs.FirstFault as tests
use Rattle.response_meter.specs.FirstFault.{only_type, type_named, type_told}
use Rattle.response_meter.specs.Metered.{name_in}
use Rattle.response_meter.specs.Nested.{types_with, types_of}
use Rattle.response_meter.specs.Types.{possible_below, number_told}
use Rattle.response_meter.specs.Walks.{setting, value_fault, value_tree, objects_of, root_plan, Measures, MeasuresPosition, MeasuresObject, MeasuresData}
use Rattle.response_meter.proofs.Places.{measures_as, tree_as, object_measured}
use Rattle.response_meter.proofs.Possible.{weighed_below}

module _ (name : ℕ → List ℕ) (alias : List ℕ) (f g : ℕ → Nodes) where
  named_anyway : (ps : List PossibleType) (o : Option Data) → type_named name alias (types_with f ps) o ≡ type_named name alias (types_with g ps) o
  named_anyway [] o = refl
  named_anyway (p ∷ ps) o = ap (λ (rest : Option ℕ). cond (tests.is_text (name p.number) o) (Some p.number) rest) (named_anyway ps o)

  only_anyway : (ps : List PossibleType) → only_type (types_with f ps) ≡ only_type (types_with g ps)
  only_anyway [] = refl
  only_anyway (p ∷ []) = refl
  only_anyway (p ∷ q ∷ ps) = refl

  -- The type that an object says does not depend on the nodes.
  told_anyway : (asked : Bool) (ps : List PossibleType) (ms : Members) → type_told name alias asked (types_with f ps) ms ≡ type_told name alias asked (types_with g ps) ms
  told_anyway false ps ms = only_anyway ps
  told_anyway true ps ms = named_anyway ps (get_member alias ms)

module _ (by : Reading) where
  abbrev object_given : Bool → ObjectTypes → Members → Option Fault
  object_given asked possible ms =
      given (type_told (name_in by.of.now) by.alias.now asked possible ms) BadType (λ T. tests.object_fault (holds_in by.of.now) (name_in by.of.now) by.alias.now asked T possible ms)

  pub no_object : (asked : Bool) (possible : ObjectTypes) (d : Data) → None ≡ as_object d → Some (not_response [] BadObject) ≡ value_fault by asked (position possible) d
  no_object asked possible d o = ap (λ (x : Option Members). given x BadObject (λ ms. object_given asked possible ms)) o

  no_type : (asked : Bool) (possible : ObjectTypes) (d : Data) (ms : Members) → Some ms ≡ as_object d → None ≡ type_told (name_in by.of.now) by.alias.now asked possible ms
      → Some (not_response [] BadType) ≡ value_fault by asked (position possible) d
  no_type asked possible d ms o t =
      ap (λ (x : Option ℕ). given x BadType (λ T. tests.object_fault (holds_in by.of.now) (name_in by.of.now) by.alias.now asked T possible ms)) t
      ∙ ap (λ (x : Option Members). given x BadObject (λ ms. object_given asked possible ms)) o

  pub no_type_at : (n : Node) (d : Data) (ms : Members) → Some ms ≡ as_object d → None ≡ number_told by (row_in by.of.now (out-Node n).row.now) ms
      → Some (not_response [] BadType) ≡ value_fault by (row_in by.of.now (out-Node n).row.now).selected.asked (objects_of by n) d
  no_type_at n d ms o t =
      let row = row_in by.of.now (out-Node n).row.now in
      no_type row.selected.asked (types_with (types_of (setting by) (out-Node n).below) (possible_below row.below)) d ms o
      (t ∙ told_anyway (name_in by.of.now) by.alias.now (λ T. no_node) (types_of (setting by) (out-Node n).below) row.selected.asked (possible_below row.below) ms)

  pub position_measured : (before after : List ℕ) (r : Result Cost MeterFault) (n : Node) (asked : Bool) (T : ℕ) (ns : Nodes) (d : Data) (ms : Members)
      → Some ms ≡ as_object d → Some T ≡ number_told by (row_in by.of.now (out-Node n).row.now) ms → ns ≡ types_of (setting by) (out-Node n).below T
      → asked ≡ (row_in by.of.now (out-Node n).row.now).selected.asked → MeasuresObject by before after r asked T ns ms
      → MeasuresPosition by before after r (row_in by.of.now (out-Node n).row.now).selected.asked (objects_of by n) d
  position_measured before after r n asked T ns d ms o t same is m =
      let row = row_in by.of.now (out-Node n).row.now in
      let nodes = types_of (setting by) (out-Node n).below in
      let seen = weighed_below (setting by) (out-Node n).row.now in
      let told : Some T ≡ type_told (name_in by.of.now) by.alias.now row.selected.asked (types_with nodes (map (weighed (setting by)) seen.0)) ms =
      t ∙ told_anyway (name_in by.of.now) by.alias.now (λ T. no_node) nodes row.selected.asked (possible_below row.below) ms
      ∙ ap (λ (ps : List PossibleType). type_told (name_in by.of.now) by.alias.now row.selected.asked (types_with nodes ps) ms) seen.1 in
      subst (λ (ps : List PossibleType). MeasuresPosition by before after r row.selected.asked (position (types_with nodes ps)) d) (sym seen.1)
      (object_measured by before after r row.selected.asked nodes seen.0 T d ms o told
      (subst (λ (a : Bool). MeasuresObject by before after r a T (nodes T) ms) is (subst (λ (x : Nodes). MeasuresObject by before after r asked T x ms) same m)))

  -- ---- the data of a reply

  pub data_null : (before after : List ℕ) (r : Result Cost MeterFault) (plan : Plan) (d : Data) → is_null d ≡ true
      → Measures before after r (tested true NullHere None) (λ part. 0) (λ text. text ≡ compact_text json_null) → MeasuresData by before after r plan d
  data_null before after r plan d is m =
      tree_as before after r (tested true NullHere None) _ plan null _
      (ap (λ (b : Bool). cond b (tested true NullHere None) (value_fault by false plan d)) (sym is)) (ap (λ (b : Bool). cond b null (value_tree by false plan d)) (sym is))
      (measures_as before after r _ _ _ _ (λ text. text ≡ compact_text json_null) (IsTreeText null) refl refl refl (λ text is. is) m)

  data_some : (before after : List ℕ) (r : Result Cost MeterFault) (plan : Plan) (d : Data) → is_null d ≡ false → MeasuresPosition by before after r false plan d → MeasuresData by before after r plan d
  data_some before after r plan d is m =
      tree_as before after r (value_fault by false plan d) _ plan (value_tree by false plan d) _
      (ap (λ (b : Bool). cond b (tested true NullHere None) (value_fault by false plan d)) (sym is)) (ap (λ (b : Bool). cond b null (value_tree by false plan d)) (sym is)) m

  pub data_no_object : (types : Types) (d : Data) → is_null d ≡ false → None ≡ as_object d
      → Some (not_response [] BadObject) ≡ tests.data_fault (holds_in by.of.now) (name_in by.of.now) by.alias.now (root_plan by types) d
  data_no_object types d is o =
      no_object false (types_with (types_of (setting by) types) (weighed (setting by) by.of.now.root.number ∷ [])) d o
      ∙ ap (λ (b : Bool). cond b (tested true NullHere None) (value_fault by false (root_plan by types) d)) (sym is)

  pub data_object : (before after : List ℕ) (r : Result Cost MeterFault) (types : Types) (root : TypeId) (ns : Nodes) (d : Data) (ms : Members) → root ≡ by.of.now.root → is_null d ≡ false → Some ms ≡ as_object d
      → ns ≡ types_of (setting by) types root.number → MeasuresObject by before after r false root.number ns ms → MeasuresData by before after r (root_plan by types) d
  data_object before after r types root ns d ms own is o same m =
      let R = by.of.now.root.number in
      data_some before after r (root_plan by types) d is
      (object_measured by before after r false (types_of (setting by) types) (R ∷ []) R d ms o refl
      (subst (λ (t : TypeId). MeasuresObject by before after r false t.number (types_of (setting by) types t.number) ms) own
      (subst (λ (x : Nodes). MeasuresObject by before after r false root.number x ms) same m)))

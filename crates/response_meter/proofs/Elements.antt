-- The items of a list, one after another.
use Rattle.std.proofs.Common.{◌≡◌, ◌+◌, ◌<◌, ◌≤◌, ℕ, suc, List, [], ◌++◌, length, drop, get_or, Bool, Ok, refl, sym, ap, ◌∙◌, subst, arith, codes}
use Rattle.std.proofs.lemmas.List.{drop_all}
use Rattle.cost_num.specs.Capped.{capped}
use Rattle.cost_num.specs.declared.Cost.{Cost}
use Rattle.serde_json.specs.Data.{Data, Items, item}
use Rattle.serde_json.specs.View.{view, items_view}
use Rattle.serde_json.specs.declared.value.Value.{Value}
use Rattle.response_model.specs.Cost.{elements_cost}
use Rattle.response_meter.specs.declared.fault.MeterFault.{MeterFault}
use Rattle.std.specs.Option.{option_or}
use Rattle.response_meter.specs.Faults.{Tells, at_step, item_step}
use Rattle.response_meter.specs.FirstFault.{null_fault, items_fault}
use Rattle.response_meter.specs.Trees.{items_tree, null_tree}
use Rattle.response_model.specs.Response.{no_element}
use Rattle.response_model.specs.ResponseText.{comma}
use Rattle.response_model.specs.AnswerTexts.{IsTreeText, AreElementsText}
use Rattle.response_meter.specs.declared.readings.Reading.{Reading}
use Rattle.response_meter.specs.Nested.{OneNode}
use Rattle.response_meter.specs.Walks.{one_fault, one_tree, MeasuresItem, MeasuresItems}
use Rattle.response_model.proofs.Pieces.{items_from}
use Rattle.response_meter.proofs.Left.{Left, left_step, left_ends, tells_same, tells_first}

module _ (by : Reading) where
  -- what is left of the elements, from the n-th on
  abbrev pub ElementsLeft : List ℕ → List ℕ → Cost → List ℕ → Bool → ℕ → OneNode → Items → Items → Type 0
  ElementsLeft before now c front nullable n f rest all =
      Left before now c (items_fault (λ v. one_fault by f v) nullable n rest) (items_fault (λ v. one_fault by f v) nullable 0 all)
      (λ part. elements_cost part f.1 (items_tree (λ v. one_tree by f v) rest)) (λ part. elements_cost part f.1 (items_tree (λ v. one_tree by f v) all))
      (AreElementsText front (items_tree (λ v. one_tree by f v) rest)) (AreElementsText [] (items_tree (λ v. one_tree by f v) all))

  step : (before now mid after : List ℕ) (c d s : Cost) (front : List ℕ) (nullable : Bool) (n : ℕ) (f : OneNode) (json : Data) (rest all : Items)
      → ElementsLeft before now c front nullable n f (item json rest) all → mid ≡ now ++ front
      → MeasuresItem by mid after (Ok d) nullable f json
      → s.types ≡ capped (c.types + d.types) → s.fields ≡ capped (c.fields + d.fields) → ElementsLeft before after s comma nullable (suc n) f rest all
  step before now mid after c d s front nullable n f json rest all l e m p q =
      left_step before now mid after c d s _ _ _ _ _ _ front (IsTreeText (null_tree (one_tree by f json) json)) (AreElementsText comma (items_tree (λ v. one_tree by f v) rest)) (AreElementsText [] (items_tree (λ v. one_tree by f v) all))
      l e (ap (at_step (item_step n)) m.0, m.1, m.2, m.3) p q

  pub elements_step : (before now mid after : List ℕ) (c d s : Cost) (front : List ℕ) (nullable : Bool) (n : ℕ) (f : OneNode) (items : List Value) (i : ℕ) (v : Value)
      → i < length items → v ≡ get_or items i v → ElementsLeft before now c front nullable n f (items_view (drop i items)) (items_view items)
      → mid ≡ now ++ front → MeasuresItem by mid after (Ok d) nullable f (view v)
      → s.types ≡ capped (c.types + d.types) → s.fields ≡ capped (c.fields + d.fields) → ElementsLeft before after s comma nullable (n + 1) f (items_view (drop (i + 1) items)) (items_view items)
  elements_step before now mid after c d s front nullable n f items i v less is l e m p q =
      let one_more : suc n ≡ n + 1 = omega arith in
      subst (λ (k : ℕ). ElementsLeft before after s comma nullable k f (items_view (drop (i + 1) items)) (items_view items)) one_more
      (step before now mid after c d s front nullable n f (view v) (items_view (drop (i + 1) items)) (items_view items)
      (subst (λ (rest : Items). ElementsLeft before now c front nullable n f rest (items_view items)) (items_from items i v less is) l) e m p q)

  -- the fault of an item is that of the list
  pub elements_refused : (before now : List ℕ) (c : Cost) (front : List ℕ) (nullable : Bool) (n : ℕ) (f : OneNode) (items : List Value) (i : ℕ) (v : Value) (x : MeterFault)
      → i < length items → v ≡ get_or items i v → ElementsLeft before now c front nullable n f (items_view (drop i items)) (items_view items)
      → Tells x (at_step (item_step n) (null_fault nullable (one_fault by f (view v)) (view v))) → Tells x (items_fault (λ v. one_fault by f v) nullable 0 (items_view items))
  elements_refused before now c front nullable n f items i v x less is l told =
      let later = items_fault (λ v. one_fault by f v) nullable (suc n) (items_view (drop (i + 1) items)) in
      tells_same x (option_or (at_step (item_step n) (null_fault nullable (one_fault by f (view v)) (view v))) later) _
      (ap (items_fault (λ v. one_fault by f v) nullable n) (sym (items_from items i v less is)) ∙ l.same) (tells_first x (at_step (item_step n) (null_fault nullable (one_fault by f (view v)) (view v))) later told)

  -- all items were measured
  pub elements_end : (before now after : List ℕ) (c : Cost) (front : List ℕ) (nullable : Bool) (n : ℕ) (f : OneNode) (items : List Value) (i : ℕ)
      → length items ≤ i → ElementsLeft before now c front nullable n f (items_view (drop i items)) (items_view items) → after ≡ now ++ codes "]"
      → MeasuresItems by before after (Ok c) nullable f (items_view items)
  elements_end before now after c front nullable n f items i most l e =
      left_ends before now after c _ _ (codes "]") (AreElementsText front no_element) (AreElementsText [] (items_tree (λ v. one_tree by f v) (items_view items)))
      (subst (λ (rest : List Value). ElementsLeft before now c front nullable n f (items_view rest) (items_view items)) (drop_all i items most) l) refl e

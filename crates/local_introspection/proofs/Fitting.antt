-- What suits fits: the answer fits the plan of what is asked, and costs what its tree costs beside it.
use Rattle.std.proofs.Common.{◌≡◌, ℕ, ◌+◌, List, [], ◌∷◌, Bool, true, false, cond, eq-eqb, ◌||◌, Option, Some, None, refl, sym, ap, ap₂, ◌∙◌, subst, arith}
use Rattle.std.specs.List.{AllByRecursion}
use Rattle.serde_json.specs.Data.{Data, string}
use Rattle.cost_num.specs.declared.TheConstants.{UNIT}
use Rattle.response_model.specs.Plan.{Form, single, listed, Selected, LeafType, type_name, numbered, Plan, leaf_plan, position, object_type, no_type, Nodes, no_node}
use Rattle.response_model.specs.Response.{object, Entries, IsLeafOf, Fits, EntriesFit, ElementsFit}
use Rattle.response_model.specs.Cost.{Part, types, fields, value_cost, entry_cost, cost, entries_cost, elements_cost}
use Rattle.schema_facts.specs.declared.table.What.{What}
use Rattle.schema_facts.specs.Facts.{FactsData}
use Rattle.schema_facts.specs.Things.{ThingData, the_root, HeldData, nothing, one, many, leaf_of}
use Rattle.meta_schema.specs.PassedOn.{Asked, no_field, field_then, AskedBelow, of_leaf, of_objects, of_nothing, nodes_in, plan_in, kept_of, kept_below, argument_kept}
use Rattle.meta_schema.specs.MetaTypes.{number_of}
use Rattle.meta_schema.specs.MetaForms.{form_of, below_of, leaf_type_of, holds as table_holds, meta_name}
use Rattle.local_introspection.specs.Answers.{given_by, entries_of, tree_of_thing, leaf_or, tree_of_held, elements_for, field_cost, unless_leaf, cost_of_thing, cost_of_things, cost_of_held, cost_of_entries}
use Rattle.local_introspection.specs.MetaNodes.{IsFieldNode, IsMetaLeaf, what_in, AreMetaFields, IsMetaBelow, IsMetaRoot}
use Rattle.local_introspection.specs.Counting.{answer_tree, answer_cost}
use Rattle.local_introspection.proofs.Suits.{IsObjectOf, IsLeafFor, Suits, suits}

-- objects of one type
abbrev alone : ℕ → ℕ → Nodes → Plan
alone U weight nodes = position (object_type U weight nodes no_type)

-- ---- that a tree fits

-- what leaves hold by the tables they hold
abbrev pub HoldAsSaid : (ℕ → Data → Bool) → Type 0
HoldAsSaid holds = (type : ℕ) (json : Data) → table_holds type json ≡ true → holds type json ≡ true

module _ (holds : ℕ → Data → Bool) (said : HoldAsSaid holds) where
  leaf_of_type : (type : LeafType) (fill own : Data) (json : Data) → (type ≡ type_name → fill ≡ own) → IsLeafOf table_holds type own json → IsLeafOf holds type fill json
  leaf_of_type type_name fill own json named is = is ∙ sym (named refl)
  leaf_of_type (numbered n) fill own json named is = said n json is

  object_fits : (nullable : Bool) (U weight : ℕ) (nodes : Nodes) (es : Entries) → EntriesFit holds nodes es → Fits holds (single nullable) (alone U weight nodes) (object U es)
  object_fits nullable U weight nodes es fit = (ap (λ b. b || false) (eq-eqb U U refl), subst (λ b. EntriesFit holds (cond b nodes no_node) es) (sym (eq-eqb U U refl)) fit)

  module _ (type : LeafType) (weight : ℕ) (fill own : Data) (named : type ≡ type_name → fill ≡ own) (entries : ThingData → Entries) where
    leaf_fits : (nullable : Bool) (x : ThingData) → IsLeafFor type own x → Fits holds (single nullable) (leaf_plan type weight fill) (tree_of_thing entries x)
    leaf_fits nullable x (json, leaf_is, some, holds_it) =
        subst (λ o. Fits holds (single nullable) (leaf_plan type weight fill) (leaf_or o (object (number_of x) (entries x)))) (sym leaf_is) (some, leaf_of_type type fill own json named holds_it)

    leaves_fit : (nullable : Bool) (xs : List ThingData) → AllByRecursion (IsLeafFor type own) xs → ElementsFit holds nullable (leaf_plan type weight fill) (elements_for entries xs)
    leaves_fit nullable [] is = tt
    leaves_fit nullable (x ∷ xs) is = (leaf_fits nullable x is.0, leaves_fit nullable xs is.1)

    held_leaf_fits : (form : Form) (h : HeldData) → Suits form None type own h → Fits holds form (leaf_plan type weight fill) (tree_of_held entries h)
    held_leaf_fits form nothing is = is
    held_leaf_fits (single nullable) (one x) is = leaf_fits nullable x is
    held_leaf_fits (listed nullable inner) (one x) is = absurd is
    held_leaf_fits (listed nullable inner) (many xs) is = leaves_fit inner xs is
    held_leaf_fits (single nullable) (many xs) is = absurd is

  module _ (type : LeafType) (own : Data) (U weight : ℕ) (nodes : Nodes) (entries : ThingData → Entries) (each : (x : ThingData) → IsObjectOf U x → EntriesFit holds nodes (entries x)) where
    thing_fits : (nullable : Bool) (x : ThingData) → IsObjectOf U x → Fits holds (single nullable) (alone U weight nodes) (tree_of_thing entries x)
    thing_fits nullable x is =
        subst (λ o. Fits holds (single nullable) (alone U weight nodes) (leaf_or o (object (number_of x) (entries x)))) (sym is.0)
        (subst (λ (n : ℕ). Fits holds (single nullable) (alone U weight nodes) (object n (entries x))) (sym is.1) (object_fits nullable U weight nodes (entries x) (each x is)))

    things_fit : (nullable : Bool) (xs : List ThingData) → AllByRecursion (IsObjectOf U) xs → ElementsFit holds nullable (alone U weight nodes) (elements_for entries xs)
    things_fit nullable [] is = tt
    things_fit nullable (x ∷ xs) is = (thing_fits nullable x is.0, things_fit nullable xs is.1)

    held_objects_fit : (form : Form) (h : HeldData) → Suits form (Some U) type own h → Fits holds form (alone U weight nodes) (tree_of_held entries h)
    held_objects_fit form nothing is = is
    held_objects_fit (single nullable) (one x) is = thing_fits nullable x is
    held_objects_fit (listed nullable inner) (one x) is = absurd is
    held_objects_fit (listed nullable inner) (many xs) is = things_fit inner xs is
    held_objects_fit (single nullable) (many xs) is = absurd is

-- ---- what it costs

no_weight : (p : Part) → value_cost p 0 ≡ 0
no_weight types = refl
no_weight fields = refl

module _ (p : Part) (entries : ThingData → Entries) (costs : ThingData → ℕ) where
  module _ (type : LeafType) (fill own : Data) where
    leaf_costs : (x : ThingData) → IsLeafFor type own x → cost p (leaf_plan type 0 fill) (tree_of_thing entries x) ≡ cost_of_thing p costs x
    leaf_costs x (json, leaf_is, some, holds_it) =
        ap (λ o. cost p (leaf_plan type 0 fill) (leaf_or o (object (number_of x) (entries x)))) leaf_is ∙ no_weight p ∙ ap (λ o. unless_leaf o (value_cost p UNIT + costs x)) (sym leaf_is)

    leaves_cost : (xs : List ThingData) → AllByRecursion (IsLeafFor type own) xs → elements_cost p (leaf_plan type 0 fill) (elements_for entries xs) ≡ cost_of_things p costs xs
    leaves_cost [] is = refl
    leaves_cost (x ∷ xs) is = ap₂ (λ (a b : ℕ). a + b) (leaf_costs x is.0) (leaves_cost xs is.1)

    held_leaf_costs : (form : Form) (h : HeldData) → Suits form None type own h → cost p (leaf_plan type 0 fill) (tree_of_held entries h) ≡ cost_of_held p costs h
    held_leaf_costs form nothing is = refl
    held_leaf_costs (single nullable) (one x) is = leaf_costs x is
    held_leaf_costs (listed nullable inner) (one x) is = absurd is
    held_leaf_costs (listed nullable inner) (many xs) is = leaves_cost xs is
    held_leaf_costs (single nullable) (many xs) is = absurd is

  object_costs : (U : ℕ) (nodes : Nodes) (es : Entries) (n : ℕ) → entries_cost p nodes es ≡ n → cost p (alone U UNIT nodes) (object U es) ≡ value_cost p UNIT + n
  object_costs U nodes es n is = ap₂ (λ (a b : Bool). value_cost p (cond a UNIT 0) + entries_cost p (cond b nodes no_node) es) (eq-eqb U U refl) (eq-eqb U U refl) ∙ ap (λ (k : ℕ). value_cost p UNIT + k) is

  module _ (type : LeafType) (own : Data) (U : ℕ) (nodes : Nodes) (each : (x : ThingData) → IsObjectOf U x → entries_cost p nodes (entries x) ≡ costs x) where
    thing_costs : (x : ThingData) → IsObjectOf U x → cost p (alone U UNIT nodes) (tree_of_thing entries x) ≡ cost_of_thing p costs x
    thing_costs x is =
        ap (λ o. cost p (alone U UNIT nodes) (leaf_or o (object (number_of x) (entries x)))) is.0
        ∙ ap (λ (n : ℕ). cost p (alone U UNIT nodes) (object n (entries x))) is.1
        ∙ object_costs U nodes (entries x) (costs x) (each x is)
        ∙ ap (λ o. unless_leaf o (value_cost p UNIT + costs x)) (sym is.0)

    things_costs : (xs : List ThingData) → AllByRecursion (IsObjectOf U) xs → elements_cost p (alone U UNIT nodes) (elements_for entries xs) ≡ cost_of_things p costs xs
    things_costs [] is = refl
    things_costs (x ∷ xs) is = ap₂ (λ (a b : ℕ). a + b) (thing_costs x is.0) (things_costs xs is.1)

    held_objects_cost : (form : Form) (h : HeldData) → Suits form (Some U) type own h → cost p (alone U UNIT nodes) (tree_of_held entries h) ≡ cost_of_held p costs h
    held_objects_cost form nothing is = refl
    held_objects_cost (single nullable) (one x) is = thing_costs x is
    held_objects_cost (listed nullable inner) (one x) is = absurd is
    held_objects_cost (listed nullable inner) (many xs) is = things_costs xs is
    held_objects_cost (single nullable) (many xs) is = absurd is

-- ---- the whole

module _ (f : FactsData) (place : List ℕ → Option ℕ) where
  abbrev AreFields : ℕ → Asked → Type 0
  AreFields T asked = AreMetaFields place f.query_name T asked

  abbrev entries_below : AskedBelow → ThingData → Entries
  entries_below below y = entries_of f (kept_below place below) y

  abbrev name_at : ℕ → Data
  name_at T = string (meta_name f.query_name T)

  -- where a field of the type T has the form of its table
  abbrev SuitsField : Form → ℕ → What → HeldData → Type 0
  SuitsField form T w h = Suits form (below_of w) (leaf_type_of w) (name_at T) h

  suits_leaf : (form : Form) (T : ℕ) (w : What) (type : LeafType) (weight : ℕ) (fill : Data) (h : HeldData) → IsMetaLeaf place f.query_name T w type weight fill → SuitsField form T w h → Suits form None type (name_at T) h
  suits_leaf form T w type weight fill h leaf is =
      subst (λ (l : LeafType). Suits form None l (name_at T) h) (sym leaf.of) (subst (λ (b : Option ℕ). Suits form b (leaf_type_of w) (name_at T) h) leaf.alone is)

  suits_objects : (form : Form) (T : ℕ) (w : What) (U : ℕ) (h : HeldData) → below_of w ≡ Some U → SuitsField form T w h → Suits form (Some U) (leaf_type_of w) (name_at T) h
  suits_objects form T w U h is suited = subst (λ (b : Option ℕ). Suits form b (leaf_type_of w) (name_at T) h) is suited

  moved : (U : ℕ) (asked : Asked) (x : ThingData) → IsObjectOf U x → AreFields U asked → AreFields (number_of x) asked
  moved U asked x is are = subst (λ (V : ℕ). AreFields V asked) (sym is.1) are

  suits_form : (s : Selected) (x : ThingData) (w : What) → leaf_of x ≡ None → IsFieldNode (number_of x) s w → (h : HeldData) → SuitsField (form_of (number_of x) w) (number_of x) w h → SuitsField s.form (number_of x) w h
  suits_form s x w none is h suited = subst (λ (form : Form). SuitsField form (number_of x) w h) (sym is.form) suited

  module _ (holds : ℕ → Data → Bool) (said : HoldAsSaid holds) where
    mutual
      unfolding entries_of

      entries_fit : (asked : Asked) (x : ThingData) → leaf_of x ≡ None → AreFields (number_of x) asked → EntriesFit holds (nodes_in asked) (entries_of f (kept_of place asked) x)
      entries_fit no_field x none are = tt
      entries_fit (field_then s arguments below others) x none (is, there, more) = (
        refl,
        below_fits s.form (number_of x) (what_in place f.query_name s arguments) below there (given_by f x s.field (argument_kept place arguments))
            (suits_form s x (what_in place f.query_name s arguments) none is (given_by f x s.field (argument_kept place arguments)) (suits f x (what_in place f.query_name s arguments) none is.of)),
        entries_fit others x none more,
      )

      below_fits : (form : Form) (T : ℕ) (w : What) (below : AskedBelow) → IsMetaBelow place f.query_name T w below → (h : HeldData) → SuitsField form T w h → Fits holds form (plan_in below) (tree_of_held (entries_below below) h)
      below_fits form T w (of_leaf type weight fill) leaf h suited =
          held_leaf_fits holds said type weight fill (name_at T) leaf.named (entries_below (of_leaf type weight fill)) form h (suits_leaf form T w type weight fill h leaf suited)
      below_fits form T w (of_objects U weight asked) (some, weighs, are) h suited =
          held_objects_fit holds said (leaf_type_of w) (name_at T) U weight (nodes_in asked) (entries_of f (kept_of place asked)) (λ y is. entries_fit asked y is.0 (moved U asked y is are)) form h (suits_objects form T w U h some suited)
      below_fits form T w of_nothing is h suited = absurd is

    pub root_fits : (below : AskedBelow) → IsMetaRoot place f.query_name below → Fits holds (single true) (plan_in below) (answer_tree f (kept_below place below))
    root_fits (of_leaf type weight fill) is = absurd is
    root_fits (of_objects T weight asked) (zeroth, weighs, are) =
        subst (λ (n : ℕ). Fits holds (single true) (alone T weight (nodes_in asked)) (object n (entries_of f (kept_of place asked) the_root))) zeroth
        (object_fits holds said true T weight (nodes_in asked) (entries_of f (kept_of place asked) the_root) (entries_fit asked the_root refl (subst (λ (n : ℕ). AreFields n asked) zeroth are)))
    root_fits of_nothing is = absurd is

  module _ (p : Part) where
    entry_costs : (q : Part) (T : ℕ) (s : Selected) (w : What) → IsFieldNode T s w → entry_cost q s ≡ field_cost q w
    entry_costs types T s w is = refl
    entry_costs fields T s w is = omega (arith, is.weight, is.arguments)

    mutual
      unfolding entries_of cost_of_entries

      entries_costs : (asked : Asked) (x : ThingData) → leaf_of x ≡ None → AreFields (number_of x) asked → entries_cost p (nodes_in asked) (entries_of f (kept_of place asked) x) ≡ cost_of_entries f p (kept_of place asked) x
      entries_costs no_field x none are = refl
      entries_costs (field_then s arguments below others) x none (is, there, more) =
          let w : What = what_in place f.query_name s arguments in
          ap₂ (λ (a b : ℕ). a + b)
          (ap₂ (λ (a b : ℕ). a + b) (entry_costs p (number_of x) s w is)
          (below_costs s.form (number_of x) w below there (given_by f x s.field (argument_kept place arguments)) (suits_form s x w none is (given_by f x s.field (argument_kept place arguments)) (suits f x w none is.of))))
          (entries_costs others x none more)

      below_costs : (form : Form) (T : ℕ) (w : What) (below : AskedBelow) → IsMetaBelow place f.query_name T w below → (h : HeldData) → SuitsField form T w h
          → cost p (plan_in below) (tree_of_held (entries_below below) h) ≡ cost_of_held p (cost_of_entries f p (kept_below place below)) h
      below_costs form T w (of_leaf type weight fill) leaf h suited =
          ap (λ (n : ℕ). cost p (leaf_plan type n fill) (tree_of_held (entries_below (of_leaf type weight fill)) h)) leaf.weightless
          ∙ held_leaf_costs p (entries_below (of_leaf type weight fill)) (cost_of_entries f p (kept_below place (of_leaf type weight fill))) type fill (name_at T) form h (suits_leaf form T w type weight fill h leaf suited)
      below_costs form T w (of_objects U weight asked) (some, weighs, are) h suited =
          ap (λ (n : ℕ). cost p (alone U n (nodes_in asked)) (tree_of_held (entries_of f (kept_of place asked)) h)) weighs
          ∙ held_objects_cost p (entries_of f (kept_of place asked)) (cost_of_entries f p (kept_of place asked)) (leaf_type_of w) (name_at T) U (nodes_in asked) (λ y is. entries_costs asked y is.0 (moved U asked y is are)) form h (suits_objects form T w U h some suited)
      below_costs form T w of_nothing is h suited = absurd is

    pub root_costs : (below : AskedBelow) → IsMetaRoot place f.query_name below → cost p (plan_in below) (answer_tree f (kept_below place below)) ≡ answer_cost f (kept_below place below) p
    root_costs (of_leaf type weight fill) is = absurd is
    root_costs (of_objects T weight asked) (zeroth, weighs, are) =
        ap (λ (n : ℕ). cost p (alone T n (nodes_in asked)) (object 0 (entries_of f (kept_of place asked) the_root))) weighs
        ∙ ap (λ (n : ℕ). cost p (alone n UNIT (nodes_in asked)) (object 0 (entries_of f (kept_of place asked) the_root))) zeroth
        ∙ object_costs p (entries_of f (kept_of place asked)) (cost_of_entries f p (kept_of place asked)) 0 (nodes_in asked) (entries_of f (kept_of place asked) the_root) (cost_of_entries f p (kept_of place asked) the_root)
        (entries_costs asked the_root refl (subst (λ (n : ℕ). AreFields n asked) zeroth are))
    root_costs of_nothing is = absurd is

-- The possible types of each position of what a table holds have different names.
use Rattle.std.proofs.Common.{◌≡◌, ◌⊎◌, inl, inr, ⊎_elim, ℕ, suc, ◌+◌, ◌<◌, List, [], ◌∷◌, ◌++◌, length, map, nat_eq, Bool, true, false, true≢false, cond, eqb, ◌||◌, Option, Some, None, refl, sym, ap, ◌∙◌, subst, arith, eqb-true, eq-eqb}
use Rattle.std.proofs.lemmas.Bool.{cases_Bool}
use Rattle.std.specs.List.{list_any}
use Rattle.schema_model.specs.declared.entries.FieldId.{FieldId}
use Rattle.schema_model.specs.SchemaData.{TypeData, SchemaData, numbers_from, possible}
use Rattle.document_rules.specs.Sites.{is_composite, type_of_field}
use Rattle.response_model.specs.Plan.{Plan, leaf_plan, position, ObjectTypes, no_type, object_type, Nodes, no_node, node, is_possible}
use Rattle.plan_model.specs.SelectedFields.{Setting, object_place, leaf_of, place_of}
use Rattle.plan_model.specs.Plans.{type_weight}
use Rattle.plan_table.specs.declared.rows.NodeRow.{NodeRow}
use Rattle.plan_table.specs.declared.table.Plan.{Plan as Table}
use Rattle.plan_table.specs.Rows.{Below, leaf_below, objects_below, Row, types_in, below_in, rows_below, rows_of_types, rows_of_nodes}
use Rattle.plan_table.specs.Tables.{IsAlone, HasRows, setting_in, row_of, weighed, below_at, meaning_of}
use Rattle.response_meter.specs.FirstFault.{IsFilled, HaveNames, AreNamed, TypesNamed, NodesNamed}
use Rattle.response_meter.specs.Metered.{TypesDiffer, name_in}
use Rattle.response_meter.specs.Types.{types_alone}
use Rattle.response_meter.proofs.Possible.{possible_is}

-- ---- possible types are types of the schema

numbers_within : (P : ℕ → TypeData → Bool) (n : ℕ) (ts : List TypeData) (T : ℕ) → list_any (nat_eq T) (numbers_from n P ts) ≡ true → T < n + length ts
numbers_within P n [] T h = absurd (true≢false (sym h))
numbers_within P n (t ∷ ts) T h = either (P n t) h (λ k. numbers_within P (n + 1) ts T k)
  where
    behind : (list_any (nat_eq T) (numbers_from (n + 1) P ts) ≡ true → T < (n + 1) + length ts) → list_any (nat_eq T) (numbers_from (n + 1) P ts) ≡ true → T < n + suc (length ts)
    behind later k = let less = later k in omega arith

    here : T ≡ n → T < n + suc (length ts)
    here same = omega arith

    either : (b : Bool) → list_any (nat_eq T) (cond b (n ∷ numbers_from (n + 1) P ts) (numbers_from (n + 1) P ts)) ≡ true
        → (list_any (nat_eq T) (numbers_from (n + 1) P ts) ≡ true → T < (n + 1) + length ts) → T < n + suc (length ts)
    either false k later = behind later k
    either true k later = ⊎_elim
        (λ (e : eqb T n ≡ true). here (eqb-true T n e))
        (λ (e : eqb T n ≡ false). behind later (sym (ap (λ (b : Bool). b || list_any (nat_eq T) (numbers_from (n + 1) P ts)) e) ∙ k))
        (cases_Bool (eqb T n))

possible_within : (s : SchemaData) (c T : ℕ) → list_any (nat_eq T) (possible s c) ≡ true → T < length s.types
possible_within s c T h = by (possible_is s.types s.types 0 c)
  where
    by : ((P : ℕ → TypeData → Bool) × (possible s c ≡ numbers_from 0 P s.types)) ⊎ (possible s c ≡ []) → T < length s.types
    by (inl some) = let less = numbers_within some.0 0 s.types T (sym (ap (λ (ns : List ℕ). list_any (nat_eq T) ns) some.1) ∙ h) in omega arith
    by (inr none) = absurd (true≢false (sym h ∙ ap (λ (ns : List ℕ). list_any (nat_eq T) ns) none))

among_alone : (e : Setting) (Ts : List ℕ) (T : ℕ) → is_possible T (types_alone (map (weighed e) Ts)) ≡ true → list_any (nat_eq T) Ts ≡ true
among_alone e [] T h = absurd (true≢false (sym h))
among_alone e (U ∷ Ts) T h = ⊎_elim
    (λ (same : eqb U T ≡ true). ap (λ (b : Bool). b || list_any (nat_eq T) Ts) (eq-eqb T U (sym (eqb-true U T same))))
    (λ (other : eqb U T ≡ false). either (nat_eq T U) (list_any (nat_eq T) Ts) (among_alone e Ts T (sym (ap (λ (b : Bool). b || is_possible T (types_alone (map (weighed e) Ts))) other) ∙ h)))
    (cases_Bool (eqb U T))
  where
    either : (b c : Bool) → c ≡ true → b || c ≡ true
    either true c is = refl
    either false c is = is

-- ---- what stands below rows

module _ (name : ℕ → List ℕ) where
  abbrev BelowNamed : Below → Type 0
  BelowNamed (leaf_below type weight fill) = IsFilled type fill
  BelowNamed (objects_below ps) = HaveNames name (types_alone ps)

  abbrev AllNamed : List Row → Type 0
  AllNamed [] = Unit {0}
  AllNamed (r ∷ rs) = BelowNamed r.below × AllNamed rs

  all_parts : (rs ss : List Row) → AllNamed (rs ++ ss) → AllNamed rs × AllNamed ss
  all_parts [] ss all = (tt, all)
  all_parts (r ∷ rs) ss all = let parts = all_parts rs ss all.1 in ((all.0, parts.0), parts.1)

  possible_again : (T : ℕ) (ts : ObjectTypes) → is_possible T ts ≡ is_possible T (types_alone (types_in ts))
  possible_again T no_type = refl
  possible_again T (object_type U w ns others) = ap (λ (b : Bool). eqb U T || b) (possible_again T others)

  names_again : (ts : ObjectTypes) → HaveNames name (types_alone (types_in ts)) → HaveNames name ts
  names_again ts have T U t u same = have T U (sym (possible_again T ts) ∙ t) (sym (possible_again U ts) ∙ u) same

  mutual
    unfolding rows_below rows_of_types rows_of_nodes

    below_named : (d : ℕ) (plan : Plan) → BelowNamed (below_in plan) → AllNamed (rows_below d plan) → AreNamed name plan
    below_named d (leaf_plan type weight fill) own all = own
    below_named d (position possible) own all = (names_again possible own, types_named d possible all)

    types_named : (d : ℕ) (possible : ObjectTypes) → AllNamed (rows_of_types d possible) → TypesNamed name possible
    types_named d no_type all = tt
    types_named d (object_type T weight nodes others) all =
        let parts = all_parts (rows_of_nodes d T weight true nodes) (rows_of_types d others) all in
        (nodes_named d T weight true nodes parts.0, types_named d others parts.1)

    nodes_named : (d T weight : ℕ) (first : Bool) (nodes : Nodes) → AllNamed (rows_of_nodes d T weight first nodes) → NodesNamed name nodes
    nodes_named d T weight first no_node all = tt
    nodes_named d T weight first (node s below others) all =
        let parts = all_parts (rows_below (suc d) below) (rows_of_nodes d T weight false others) all.1 in
        (below_named (suc d) below all.0 parts.0, nodes_named d T weight false others parts.1)

  alone_named : (T w : ℕ) (possible : ObjectTypes) → IsAlone T w possible → HaveNames name possible
  alone_named T w no_type alone = absurd alone
  alone_named T w (object_type R x nodes no_type) alone = λ U V u v same. one R U u ∙ sym (one R V v)
    where
      one : (R U : ℕ) → (eqb R U || false) ≡ true → U ≡ R
      one R U h = ⊎_elim
          (λ (e : eqb R U ≡ true). sym (eqb-true R U e))
          (λ (e : eqb R U ≡ false). absurd (true≢false (sym h ∙ ap (λ (b : Bool). b || false) e)))
          (cases_Bool (eqb R U))
  alone_named T w (object_type R x nodes (object_type S y ns others)) alone = absurd alone

-- ---- the rows of a table

module _ (p : Table) (differ : TypesDiffer (setting_in p).schema) where
  objects_named : (c : ℕ) → BelowNamed (name_in p) (objects_below (map (weighed (setting_in p)) (possible (setting_in p).schema c)))
  objects_named c T U t u same =
      differ T U (possible_within (setting_in p).schema c T (among_alone (setting_in p) (possible (setting_in p).schema c) T t))
      (possible_within (setting_in p).schema c U (among_alone (setting_in p) (possible (setting_in p).schema c) U u)) same

  of_type : (b : Bool) (of : ℕ) → BelowNamed (name_in p) (below_at (setting_in p) (cond b (object_place (possible (setting_in p).schema of)) (leaf_of (setting_in p) of)))
  of_type true of = objects_named of
  of_type false of = tt

  of_meaning : (T : ℕ) (field : Option FieldId) → BelowNamed (name_in p) (below_at (setting_in p) (place_of (setting_in p) T (meaning_of field)))
  of_meaning T None = tt
  of_meaning T (Some field) = of_type (is_composite (setting_in p).schema (type_of_field (setting_in p).schema field.number)) (type_of_field (setting_in p).schema field.number)

  row_named : (r : NodeRow) → BelowNamed (name_in p) (row_of (setting_in p) r).below
  unfolding row_of
  row_named r = of_meaning r.on.number r.field

  rows_named : (rows : List NodeRow) → AllNamed (name_in p) (map (row_of (setting_in p)) rows)
  rows_named [] = tt
  rows_named (r ∷ rows) = (row_named r, rows_named rows)

  pub table_named : (tree : Plan) → HasRows p tree → AreNamed (name_in p) tree
  table_named (leaf_plan type weight fill) holds = absurd holds
  table_named (position possible) holds = (
    alone_named (name_in p) p.root.number (type_weight (setting_in p) p.root.number) possible holds.0,
    types_named (name_in p) 1 possible (subst (λ (rs : List Row). AllNamed (name_in p) rs) holds.1 (rows_named p.rows.items)),
  )

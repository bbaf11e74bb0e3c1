-- A filled tree is a response that attains the greatest cost; there is one, and it is the one that the recursion gives.
use Rattle.std.proofs.Common.{◌≡◌, ℕ, suc, zero, ◌+◌, ◌*◌, ◌≤◌, ◌<◌, ◌↔◌, List, Bool, true, false, cond, Option, Some, None, refl, sym, ap, ◌∙◌, subst, arith, le_refl, suc-mul, leb-false}
use Rattle.serde_json.specs.Data.{Data}
use Rattle.response_model.specs.Plan.{Form, single, listed, Plan, leaf_plan, position, ObjectTypes, no_type, object_type, Nodes, no_node, node, weight_of, nodes_of}
use Rattle.response_model.specs.Response.{Tree, null, leaf, list_of, object, Elements, no_element, element, Entries, no_entry, entry, count, Fits, EntriesFit, ElementsFit, SizesKept, EntriesKept, ElementsKept}
use Rattle.response_model.specs.Cost.{Part, value_cost, cost, entries_cost, elements_cost}
use Rattle.response_model.specs.Bound.{IsBound, IsResponse, Exceeds, greatest_in, greatest_cost, greatest_of_types, greatest_of_nodes, HasType, IsSound, TypesSound, NodesSound}
use Rattle.response_model.specs.Filled.{IsFilled, EntriesFilled, ElementsFilled, filled_count, repeated, filled_in, attains, filled_type, filled, filled_object, filled_entries}
use Rattle.response_model.proofs.Lookup.{types_differ, nodes_in_front, nodes_behind, nodes_sound, first_attained, costly_has_type, filled_type_first, one_first_type}
use Rattle.response_model.proofs.AtMost.{at_most}

-- Where one value stands, neither its nullability nor a size matters.
any_single : (part : Part) (a b : Bool) (size other : Option ℕ) (plan : Plan) (t : Tree) → IsFilled part (single a) size plan t → IsFilled part (single b) other plan t
any_single part a b size other plan null is = absurd is
any_single part a b size other (leaf_plan type w fill) (leaf json) is = is
any_single part a b size other (position possible) (leaf json) is = absurd is
any_single part a b size other plan (list_of ts) is = absurd is
any_single part a b size other (leaf_plan type w fill) (object T es) is = absurd is
any_single part a b size other (position possible) (object T es) is = is

module _ (holds : ℕ → Data → Bool) where
  pub record Filling (part : Part) (form : Form) (size : Option ℕ) (plan : Plan) (t : Tree) : Type 0 where
    pub fits : Fits holds form plan t
    pub kept : SizesKept size plan t
    pub costs : cost part plan t ≡ greatest_in form size (greatest_cost part plan)

  record EntriesFilling (part : Part) (nodes : Nodes) (es : Entries) : Type 0 where
    fits : EntriesFit holds nodes es
    kept : EntriesKept nodes es
    costs : entries_cost part nodes es ≡ greatest_of_nodes part nodes

  record ElementsFilling (part : Part) (nullable : Bool) (plan : Plan) (ts : Elements) : Type 0 where
    fits : ElementsFit holds nullable plan ts
    kept : ElementsKept plan ts
    costs : elements_cost part plan ts ≡ count ts * greatest_cost part plan

  list_filling : (part : Part) (n i : Bool) (size : Option ℕ) (plan : Plan) (ts : Elements) → count ts ≡ filled_count size → ElementsFilling part i plan ts → Filling part (listed n i) size plan (list_of ts)
  list_filling part n i None plan ts as_many inside = record {
    fits = inside.fits;
    kept = (tt, inside.kept);
    costs = inside.costs ∙ ap (λ (m : ℕ). m * greatest_cost part plan) as_many ∙ none (greatest_cost part plan);
  }
    where
      none : (m : ℕ) → 0 * m ≡ 0
      none m = omega arith
  list_filling part n i (Some size) plan ts as_many inside = record {
    fits = inside.fits;
    kept = (subst (λ (m : ℕ). m ≤ size) (sym as_many) (le_refl size), inside.kept);
    costs = inside.costs ∙ ap (λ (m : ℕ). m * greatest_cost part plan) as_many;
  }

  mutual
    pub filling : (part : Part) (form : Form) (size : Option ℕ) (plan : Plan) (t : Tree) → IsSound holds plan → IsFilled part form size plan t → Filling part form size plan t
    filling part form size plan null sound is = absurd is
    filling part (single n) size (leaf_plan type w fill) (leaf json) sound is = record { fits = subst (λ (d : Data). Fits holds (single n) (leaf_plan type w fill) (leaf d)) (sym is) sound; kept = tt; costs = refl }
    filling part (single n) size (position possible) (leaf json) sound is = absurd is
    filling part (listed n i) size plan (leaf json) sound is = absurd is
    filling part (single n) size plan (list_of ts) sound is = absurd is
    filling part (listed n i) size plan (list_of ts) sound is = list_filling part n i size plan ts is.0 (elements_filling part i plan ts sound is.1)
    filling part (single n) size (leaf_plan type w fill) (object T es) sound is = absurd is
    filling part (single n) size (position possible) (object T es) sound is =
        let own = first_attained holds part (greatest_of_types part possible) possible T sound.1 is.0 in
        let inside = entries_filling part (nodes_of T possible) es (nodes_sound holds T possible sound.1) is.1 in
        record { fits = (own.possible_type, inside.fits); kept = inside.kept; costs = ap (λ (m : ℕ). value_cost part (weight_of T possible) + m) inside.costs ∙ own.costs }
    filling part (listed n i) size plan (object T es) sound is = absurd is

    entries_filling : (part : Part) (nodes : Nodes) (es : Entries) → NodesSound holds nodes → EntriesFilled part nodes es → EntriesFilling part nodes es
    entries_filling part no_node no_entry sound is = record { fits = tt; kept = tt; costs = refl }
    entries_filling part no_node (entry k t es) sound is = absurd is
    entries_filling part (node s below others) no_entry sound is = absurd is
    entries_filling part (node s below others) (entry k t es) sound is =
        let first = filling part s.form s.size below t sound.1 is.1 in
        let rest = entries_filling part others es sound.2 is.2 in
        let a = first.costs in let b = rest.costs in
        record { fits = (sym is.0, first.fits, rest.fits); kept = (first.kept, rest.kept); costs = omega arith }

    elements_filling : (part : Part) (nullable : Bool) (plan : Plan) (ts : Elements) → IsSound holds plan → ElementsFilled part plan ts → ElementsFilling part nullable plan ts
    elements_filling part nullable plan no_element sound is = record { fits = tt; kept = tt; costs = omega arith }
    elements_filling part nullable plan (element t ts) sound is =
        let first = filling part (single nullable) None plan t sound (any_single part true nullable None None plan t is.0) in
        let rest = elements_filling part nullable plan ts sound is.1 in
        let a = first.costs in let b = rest.costs in
        record { fits = (first.fits, rest.fits); kept = (first.kept, rest.kept); costs = omega (arith, suc-mul (count ts) (greatest_cost part plan)) }

count_repeated : (n : ℕ) (t : Tree) → count (repeated n t) ≡ n
count_repeated zero t = refl
count_repeated (suc n) t = ap suc (count_repeated n t)

repeated_filled : (part : Part) (n : ℕ) (plan : Plan) (t : Tree) → IsFilled part (single true) None plan t → ElementsFilled part plan (repeated n t)
repeated_filled part zero plan t is = tt
repeated_filled part (suc n) plan t is = (is, repeated_filled part n plan t is)

in_filled : (part : Part) (form : Form) (size : Option ℕ) (plan : Plan) (t : Tree) → IsFilled part (single true) None plan t → IsFilled part form size plan (filled_in form size t)
in_filled part (single n) size plan t is = any_single part true n None size plan t is
in_filled part (listed n i) size plan t is = (count_repeated (filled_count size) t, repeated_filled part (filled_count size) plan t is)

-- The object of the first type that attains, from those of the type in front and of the types behind it.
module _ (holds : ℕ → Data → Bool) where
  object_filled : (part : Part) (b : Bool) (T w : ℕ) (nodes : Nodes) (others : ObjectTypes) (es fs : Entries) → attains part w nodes others ≡ b → TypesSound holds (object_type T w nodes others)
      → EntriesFilled part nodes es → (HasType others → EntriesFilled part (nodes_of (filled_type part others) others) fs)
      → EntriesFilled part (nodes_of (cond b T (filled_type part others)) (object_type T w nodes others)) (cond b es fs)
  object_filled part true T w nodes others es fs e sound front behind = subst (λ (ns : Nodes). EntriesFilled part ns es) (sym (nodes_in_front T w nodes others)) front
  object_filled part false T w nodes others es fs e sound front behind =
      let some = costly_has_type part others (value_cost part w + greatest_of_nodes part nodes) (leb-false (greatest_of_types part others) (value_cost part w + greatest_of_nodes part nodes) e) in
      let is = first_attained holds part (greatest_of_types part others) others (filled_type part others) sound.2 (filled_type_first part others some) in
      let differ = types_differ T (filled_type part others) others sound.0 is.possible_type in
      subst (λ (ns : Nodes). EntriesFilled part ns fs) (sym (nodes_behind T (filled_type part others) w nodes others differ)) (behind some)

  mutual
    pub filled_is_filled : (part : Part) (plan : Plan) → IsSound holds plan → IsFilled part (single true) None plan (filled part plan)
    filled_is_filled part (leaf_plan type w fill) sound = refl
    filled_is_filled part (position possible) sound = (filled_type_first part possible sound.0, types_filled part possible sound.1 sound.0)

    types_filled : (part : Part) (possible : ObjectTypes) → TypesSound holds possible → HasType possible → EntriesFilled part (nodes_of (filled_type part possible) possible) (filled_object part possible)
    types_filled part no_type sound some = absurd some
    types_filled part (object_type T w nodes others) sound some =
        object_filled part (attains part w nodes others) T w nodes others (filled_entries part nodes) (filled_object part others) refl sound (nodes_filled part nodes sound.1) (types_filled part others sound.2)

    nodes_filled : (part : Part) (nodes : Nodes) → NodesSound holds nodes → EntriesFilled part nodes (filled_entries part nodes)
    nodes_filled part no_node sound = tt
    nodes_filled part (node s below others) sound = (refl, in_filled part s.form s.size below (filled part below) (filled_is_filled part below sound.1), nodes_filled part others sound.2)

  pub attains_greatest : (part : Part) (plan : Plan) (t : Tree) → IsSound holds plan → IsFilled part (single true) None plan t → IsResponse holds plan t × (cost part plan t ≡ greatest_cost part plan)
  attains_greatest part plan t sound is = let f = filling holds part (single true) None plan t sound is in ((f.fits, f.kept), f.costs)

  pub bound_is : (part : Part) (plan : Plan) → IsSound holds plan → IsBound holds part plan (greatest_cost part plan)
  bound_is part plan sound = let f = attains_greatest part plan (filled part plan) sound (filled_is_filled part plan sound) in record {
    upper = λ t is. at_most holds part (single true) None plan t tt sound is.0 is.1;
    attained = (filled part plan, f.0, f.1);
  }

-- Two filled trees are the same tree.
mutual
  pub same_filled : (part : Part) (form : Form) (size : Option ℕ) (plan : Plan) (t s : Tree) → IsFilled part form size plan t → IsFilled part form size plan s → t ≡ s
  same_filled part form size plan null s p q = absurd p
  same_filled part form size plan t null p q = absurd q
  same_filled part (single n) size (leaf_plan type w fill) (leaf d) (leaf e) p q = ap leaf (p ∙ sym q)
  same_filled part (single n) size (leaf_plan type w fill) (leaf d) (object U fs) p q = absurd q
  same_filled part (single n) size (leaf_plan type w fill) (object T es) s p q = absurd p
  same_filled part (single n) size (position possible) (leaf d) s p q = absurd p
  same_filled part (single n) size (position possible) (object T es) (leaf e) p q = absurd q
  same_filled part (single n) size (position possible) (object T es) (object U fs) p q =
      let type = one_first_type part (greatest_of_types part possible) possible T U p.0 q.0 in
      ap (λ (x : ℕ). object x es) type
      ∙ ap (λ (xs : Entries). object U xs) (same_entries part (nodes_of T possible) es fs p.1 (subst (λ (x : ℕ). EntriesFilled part (nodes_of x possible) fs) (sym type) q.1))
  same_filled part (single n) size plan (list_of ts) s p q = absurd p
  same_filled part (single n) size plan t (list_of us) p q = absurd q
  same_filled part (listed n i) size plan (list_of ts) (list_of us) p q = ap list_of (same_elements part plan ts us (p.0 ∙ sym q.0) p.1 q.1)
  same_filled part (listed n i) size plan (leaf d) s p q = absurd p
  same_filled part (listed n i) size plan (object T es) s p q = absurd p
  same_filled part (listed n i) size plan t (leaf e) p q = absurd q
  same_filled part (listed n i) size plan t (object U fs) p q = absurd q

  same_entries : (part : Part) (nodes : Nodes) (es fs : Entries) → EntriesFilled part nodes es → EntriesFilled part nodes fs → es ≡ fs
  same_entries part no_node no_entry no_entry p q = refl
  same_entries part no_node no_entry (entry l u fs) p q = absurd q
  same_entries part no_node (entry k t es) fs p q = absurd p
  same_entries part (node s below others) no_entry fs p q = absurd p
  same_entries part (node s below others) (entry k t es) no_entry p q = absurd q
  same_entries part (node s below others) (entry k t es) (entry l u fs) p q =
      ap (λ (x : List ℕ). entry x t es) (p.0 ∙ sym q.0)
      ∙ ap (λ (x : Tree). entry l x es) (same_filled part s.form s.size below t u p.1 q.1)
      ∙ ap (λ (x : Entries). entry l u x) (same_entries part others es fs p.2 q.2)

  same_elements : (part : Part) (plan : Plan) (ts us : Elements) → count ts ≡ count us → ElementsFilled part plan ts → ElementsFilled part plan us → ts ≡ us
  same_elements part plan no_element no_element e p q = refl
  same_elements part plan no_element (element u us) e p q = absurd (omega (arith, e))
  same_elements part plan (element t ts) no_element e p q = absurd (omega (arith, e))
  same_elements part plan (element t ts) (element u us) e p q =
      ap (λ (x : Tree). element x ts) (same_filled part (single true) None plan t u p.0 q.0)
      ∙ ap (λ (x : Elements). element u x) (same_elements part plan ts us (omega (arith, e)) p.1 q.1)

-- Some response exceeds a number exactly where the greatest cost does.
module _ (holds : ℕ → Data → Bool) where
  pub exceeds : (part : Part) (plan : Plan) (n : ℕ) → IsSound holds plan → Exceeds holds part plan n ↔ (n < greatest_cost part plan)
  exceeds part plan n sound =
      let b = bound_is holds part plan sound in (
        λ (over : Exceeds holds part plan n). let most = b.upper over.0 over.1 in let more = over.2 in omega arith,
        λ (less : n < greatest_cost part plan). (b.attained.0, b.attained.1, subst (λ (m : ℕ). n < m) (sym b.attained.2) less),
      )

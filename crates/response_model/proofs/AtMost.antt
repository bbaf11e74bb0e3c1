-- No response of a sound plan costs more than the greatest cost.
use Rattle.std.proofs.Common.{◌≡◌, ℕ, ◌*◌, ◌≤◌, Bool, Option, Some, None, refl, ap, arith, zero-le, le_refl, le_trans, mul-le-mul_right, suc-mul}
use Rattle.serde_json.specs.Data.{Data}
use Rattle.response_model.specs.Plan.{Form, single, listed, Plan, leaf_plan, position, Nodes, no_node, node, nodes_of}
use Rattle.response_model.specs.Response.{Tree, null, leaf, list_of, object, Elements, no_element, element, Entries, no_entry, entry, count, Fits, EntriesFit, ElementsFit, IsWithin, SizesKept, EntriesKept, ElementsKept}
use Rattle.response_model.specs.Cost.{Part, types, fields, value_cost, cost, entries_cost, elements_cost}
use Rattle.response_model.specs.Bound.{greatest_in, greatest_cost, greatest_of_nodes, IsCountable, IsSound, NodesSound}
use Rattle.response_model.proofs.Lookup.{nodes_sound, own_at_most}

weightless : (part : Part) (w : ℕ) → w ≡ 0 → value_cost part w ≡ 0
weightless types w e = e
weightless fields w e = refl

-- A list's items together, where each costs at most the greatest.
within_list : (part : Part) (nullable item_nullable : Bool) (size : Option ℕ) (plan : Plan) (n m : ℕ) → IsCountable (listed nullable item_nullable) size plan → IsWithin size n
    → m ≤ n * greatest_cost part plan → m ≤ greatest_in (listed nullable item_nullable) size (greatest_cost part plan)
within_list part nullable item_nullable None (leaf_plan type w fill) n m countable within most =
    let none : n * value_cost part w ≡ n * 0 = ap (λ (k : ℕ). n * k) (weightless part w countable) in
    omega arith
within_list part nullable item_nullable None (position possible) n m countable within most = absurd countable
within_list part nullable item_nullable (Some size) plan n m countable within most = le_trans most (mul-le-mul_right (greatest_cost part plan) within)

module _ (holds : ℕ → Data → Bool) where
  mutual
    pub at_most : (part : Part) (form : Form) (size : Option ℕ) (plan : Plan) (t : Tree) → IsCountable form size plan → IsSound holds plan → Fits holds form plan t → SizesKept size plan t
        → cost part plan t ≤ greatest_in form size (greatest_cost part plan)
    at_most part form size plan null countable sound fits kept = zero-le
    at_most part (single n) size (leaf_plan type w fill) (leaf json) countable sound fits kept = le_refl (value_cost part w)
    at_most part (single n) size (position possible) (leaf json) countable sound fits kept = absurd fits
    at_most part (listed n i) size plan (leaf json) countable sound fits kept = absurd fits
    at_most part (single n) size plan (list_of ts) countable sound fits kept = absurd fits
    at_most part (listed n i) size plan (list_of ts) countable sound fits kept =
        within_list part n i size plan (count ts) (elements_cost part plan ts) countable kept.0 (elements_at_most part i plan ts sound fits kept.1)
    at_most part (single n) size (leaf_plan type w fill) (object T es) countable sound fits kept = absurd fits
    at_most part (single n) size (position possible) (object T es) countable sound fits kept =
        let own = own_at_most part T possible fits.0 in
        let inside = entries_at_most part (nodes_of T possible) es (nodes_sound holds T possible sound.1) fits.1 kept in
        omega arith
    at_most part (listed n i) size plan (object T es) countable sound fits kept = absurd fits

    entries_at_most : (part : Part) (nodes : Nodes) (es : Entries) → NodesSound holds nodes → EntriesFit holds nodes es → EntriesKept nodes es → entries_cost part nodes es ≤ greatest_of_nodes part nodes
    entries_at_most part no_node es sound fits kept = zero-le
    entries_at_most part (node s below others) no_entry sound fits kept = zero-le
    entries_at_most part (node s below others) (entry k t es) sound fits kept =
        let first = at_most part s.form s.size below t sound.0 sound.1 fits.1 kept.0 in
        let rest = entries_at_most part others es sound.2 fits.2 kept.1 in
        omega arith

    elements_at_most : (part : Part) (nullable : Bool) (plan : Plan) (ts : Elements) → IsSound holds plan → ElementsFit holds nullable plan ts → ElementsKept plan ts → elements_cost part plan ts ≤ count ts * greatest_cost part plan
    elements_at_most part nullable plan no_element sound fits kept = zero-le
    elements_at_most part nullable plan (element t ts) sound fits kept =
        let first = at_most part (single nullable) None plan t tt sound fits.0 kept.0 in
        let rest = elements_at_most part nullable plan ts sound fits.1 kept.1 in
        omega (arith, suc-mul (count ts) (greatest_cost part plan))

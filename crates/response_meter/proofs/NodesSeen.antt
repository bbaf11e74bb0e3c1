-- What is seen of a node in memory, and the keys of nodes.
use Rattle.std.proofs.Common.{◌≡◌, ⊎_elim, ◌+◌, ℕ, List, [], ◌∷◌, Bool, true, false, true≢false, ◌||◌, ◌&&◌, bytes_eq, refl, sym, ap, ap₂, ◌∙◌}
use Rattle.std.specs.List.{list_any}
use Rattle.std.proofs.lemmas.Bool.{cases_Bool}
use Rattle.std.proofs.lemmas.Slice.Eq.{bytes_eq-Decides}
use Rattle.cost_num.specs.Capped.{capped}
use Rattle.response_model.specs.Plan.{Form, Selected}
use Rattle.response_model.specs.Cost.{fields, entry_cost}
use Rattle.response_model.specs.Reading.{has_key}
use Rattle.plan_table.specs.declared.rows.NodeRow.{NodeRow}
use Rattle.plan_table.specs.Tables.{row_of, row_in}
use Rattle.response_meter.specs.declared.nested.Node.{Node}
use Rattle.response_meter.specs.declared.nested.Node.TheViews.{out-Node}
use Rattle.response_meter.specs.declared.readings.Reading.{Reading}
use Rattle.response_meter.specs.Nested.{OneNode}
use Rattle.response_meter.specs.Walks.{setting, one_node, nodes_in}
use Rattle.response_meter.proofs.Opened.{node_opened}

either_way : (a b : List ℕ) → bytes_eq a b ≡ bytes_eq b a
either_way a b = ⊎_elim
    (λ (t : bytes_eq a b ≡ true). t ∙ sym ((bytes_eq-Decides b a).1 (sym ((bytes_eq-Decides a b).0 t))))
    (λ (f : bytes_eq a b ≡ false). f ∙ sym (⊎_elim
    (λ (t : bytes_eq b a ≡ true). absurd (true≢false (sym ((bytes_eq-Decides a b).1 (sym ((bytes_eq-Decides b a).0 t))) ∙ f)))
    (λ (u : bytes_eq b a ≡ false). u)
    (cases_Bool (bytes_eq b a))))
    (cases_Bool (bytes_eq a b))

module _ (by : Reading) where
  pub selected_at : (n : Node) → (one_node by n).0 ≡ (row_in by.of.now (out-Node n).row.now).selected
  selected_at n = ap (λ (f : OneNode). f.0) (node_opened (setting by) n)

  pub form_at : (n : Node) (form : Form) → form ≡ (row_in by.of.now (out-Node n).row.now).selected.form → (one_node by n).0.form ≡ form
  form_at n form is = ap (λ (s : Selected). s.form) (selected_at n) ∙ sym is

  pub key_at : (n : Node) → (out-Node n).row.now.key ≡ (one_node by n).0.key
  unfolding row_of
  key_at n = sym (ap (λ (s : Selected). s.key) (selected_at n))

  pub size_at : (n : Node) → (out-Node n).row.now.size ≡ (one_node by n).0.size
  unfolding row_of
  size_at n = sym (ap (λ (s : Selected). s.size) (selected_at n))

  pub asked_at : (row : NodeRow) → row.asked ≡ (row_in by.of.now row).selected.asked
  unfolding row_of
  asked_at row = refl

  pub weight_at : (n : Node) (weight w : ℕ) → weight ≡ (row_in by.of.now (out-Node n).row.now).selected.weight → w ≡ capped (weight + (out-Node n).row.now.arguments) → w ≡ capped (entry_cost fields (one_node by n).0)
  unfolding row_of
  weight_at n weight w is sum =
      sum ∙ ap (λ (x : ℕ). capped (x + (out-Node n).row.now.arguments)) is ∙ ap (λ (s : Selected). capped (entry_cost fields s)) (sym (selected_at n))

  -- the nodes have the keys of their rows
  pub has_key_in : (nodes : List Node) (key : List ℕ) → list_any (λ (n : Node). bytes_eq (out-Node n).row.now.key key) nodes ≡ has_key key (nodes_in by nodes)
  has_key_in [] key = refl
  has_key_in (n ∷ ns) key = ap₂ (λ (a b : Bool). a || b) (either_way (out-Node n).row.now.key key ∙ ap (bytes_eq key) (key_at n)) (has_key_in ns key)

-- a key is known as a node's, or as the alias where that is asked
pub known_key : (has known other : Bool) → has ≡ known → has ≡ true → has ≡ known || other
known_key has known other same is = is ∙ sym (ap (λ (b : Bool). b || other) (sym same ∙ is))

pub known_else : (has known asked alias is : Bool) → has ≡ known → has ≡ false → asked ≡ is → (known || (asked && alias)) ≡ (is && alias)
known_else has known asked alias is same not same_asked = ap₂ (λ (a b : Bool). a || (b && alias)) (sym same ∙ not) same_asked

-- The nodes of an object, one after another.
use Rattle.std.proofs.Common.{◌≡◌, ◌+◌, ◌<◌, ◌≤◌, ℕ, suc, List, [], ◌∷◌, ◌++◌, length, drop, get_or, codes, Ok, refl, sym, ap, ◌∙◌, subst, arith, drop-cons, append_assoc}
use Rattle.std.proofs.lemmas.List.{drop_all}
use Rattle.std.specs.Option.{option_or}
use Rattle.cost_num.specs.Capped.{capped}
use Rattle.cost_num.specs.declared.Cost.{Cost}
use Rattle.serde_json.specs.Data.{Members}
use Rattle.response_model.specs.Plan.{Nodes, node}
use Rattle.response_model.specs.Cost.{entries_cost}
use Rattle.response_model.specs.Response.{no_entry}
use Rattle.response_model.specs.ResponseText.{comma, key_text}
use Rattle.response_model.specs.AnswerTexts.{AreBoth, Behind, IsTreeText, AreEntriesText}
use Rattle.response_meter.specs.declared.fault.MeterFault.{MeterFault}
use Rattle.response_meter.specs.declared.nested.Node.{Node}
use Rattle.response_meter.specs.declared.readings.Reading.{Reading}
use Rattle.response_meter.specs.Faults.{Tells}
use Rattle.response_meter.specs.Nested.{OneNode}
use Rattle.response_meter.specs.Walks.{one_node, nodes_in, entries_fault, member_entries, entry_fault, entry_tree, MeasuresEntry, MeasuresEntries}
use Rattle.response_meter.proofs.Left.{Left, left_step, left_as, left_ends, tells_same, tells_first}

-- a key stands before its value, and what stands before both is one text
regrouped : (front key : List ℕ) (Value Others : List ℕ → Type 0) (text : List ℕ) → Behind front (AreBoth (Behind key Value) Others) text → Behind (front ++ key) (AreBoth Value Others) text
regrouped front key Value Others text is =
    let both = is.2 in
    let own = both.3 in
    let longer : front ++ ((key ++ own.0) ++ both.1) ≡ (front ++ key) ++ (own.0 ++ both.1) = ap (λ x. front ++ x) (append_assoc key own.0 both.1) ∙ sym (append_assoc front key (own.0 ++ both.1)) in
    (own.0 ++ both.1, is.1 ∙ ap (λ x. front ++ x) (both.2 ∙ ap (λ x. x ++ both.1) own.1) ∙ longer, (own.0, both.1, refl, own.2, both.4))

module _ (by : Reading) where
  -- the nodes from the i-th on
  pub nodes_left : (nodes : List Node) (i : ℕ) (n : Node) → i < length nodes → n ≡ get_or nodes i n → nodes_in by (drop i nodes) ≡ node (one_node by n).0 (one_node by n).1 (nodes_in by (drop (i + 1) nodes))
  nodes_left nodes i n less is =
      let one_more : suc i ≡ i + 1 = omega arith in
      ap (nodes_in by) (drop-cons nodes i n less ∙ ap (λ (x : Node). x ∷ drop (suc i) nodes) (sym is) ∙ ap (λ (j : ℕ). n ∷ drop j nodes) one_more)

  -- what is left of the entries
  abbrev pub EntriesLeft : List ℕ → List ℕ → Cost → List ℕ → Nodes → Nodes → Members → Type 0
  EntriesLeft before now c front rest all ms =
      Left before now c (entries_fault by rest ms) (entries_fault by all ms)
      (λ part. entries_cost part rest (member_entries by rest ms)) (λ part. entries_cost part all (member_entries by all ms))
      (AreEntriesText front (member_entries by rest ms)) (AreEntriesText [] (member_entries by all ms))

  pub entries_step : (before now mid after : List ℕ) (c d s : Cost) (front : List ℕ) (nodes : List Node) (i : ℕ) (n : Node) (ms : Members)
      → i < length nodes → n ≡ get_or nodes i n → EntriesLeft before now c front (nodes_in by (drop i nodes)) (nodes_in by nodes) ms
      → mid ≡ now ++ front → MeasuresEntry by mid after (Ok d) (one_node by n) ms
      → s.types ≡ capped (c.types + d.types) → s.fields ≡ capped (c.fields + d.fields) → EntriesLeft before after s comma (nodes_in by (drop (i + 1) nodes)) (nodes_in by nodes) ms
  entries_step before now mid after c d s front nodes i n ms less is l e m p q =
      let f : OneNode = one_node by n in
      let rest : Nodes = nodes_in by (drop (i + 1) nodes) in
      let Value : List ℕ → Type 0 = IsTreeText (entry_tree by f ms) in
      let Others : List ℕ → Type 0 = AreEntriesText comma (member_entries by rest ms) in
      let Whole : List ℕ → Type 0 = AreEntriesText [] (member_entries by (nodes_in by nodes) ms) in
      left_step before now mid after c d s _ _ _ _ _ _ front (Behind (key_text f.0.key) Value) Others Whole
      (left_as before now c _ _ _ _ (Behind (front ++ key_text f.0.key) (AreBoth Value Others)) (Behind front (AreBoth (Behind (key_text f.0.key) Value) Others)) Whole (regrouped front (key_text f.0.key) Value Others)
      (subst (λ (rest : Nodes). EntriesLeft before now c front rest (nodes_in by nodes) ms) (nodes_left nodes i n less is) l)) e m p q

  -- all entries were measured
  pub entries_end : (before now after : List ℕ) (c : Cost) (front : List ℕ) (nodes : List Node) (i : ℕ) (ms : Members)
      → length nodes ≤ i → EntriesLeft before now c front (nodes_in by (drop i nodes)) (nodes_in by nodes) ms → after ≡ now ++ codes "}" → MeasuresEntries by before after (Ok c) (nodes_in by nodes) ms
  entries_end before now after c front nodes i ms most l e =
      left_ends before now after c _ _ (codes "}") (AreEntriesText front no_entry) (AreEntriesText [] (member_entries by (nodes_in by nodes) ms))
      (subst (λ (rest : List Node). EntriesLeft before now c front (nodes_in by rest) (nodes_in by nodes) ms) (drop_all i nodes most) l) refl e

  -- the fault of an entry is that of the object
  pub entries_refused : (before now : List ℕ) (c : Cost) (front : List ℕ) (nodes : List Node) (i : ℕ) (n : Node) (ms : Members) (x : MeterFault)
      → i < length nodes → n ≡ get_or nodes i n → EntriesLeft before now c front (nodes_in by (drop i nodes)) (nodes_in by nodes) ms → Tells x (entry_fault by (one_node by n) ms) → Tells x (entries_fault by (nodes_in by nodes) ms)
  entries_refused before now c front nodes i n ms x less is l told =
      let others = nodes_in by (drop (i + 1) nodes) in
      tells_same x (option_or (entry_fault by (one_node by n) ms) (entries_fault by others ms)) (entries_fault by (nodes_in by nodes) ms)
      (ap (λ ns. entries_fault by ns ms) (sym (nodes_left nodes i n less is)) ∙ l.same) (tells_first x (entry_fault by (one_node by n) ms) (entries_fault by others ms) told)

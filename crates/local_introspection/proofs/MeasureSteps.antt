-- Loops over entries: what was measured and what is left give the whole.
use Rattle.std.proofs.Common.{◌≡◌, ◌+◌, ◌≤◌, ◌<◌, ℕ, List, ◌++◌, length, length-append, drop, get_or, Ok, Err, sym, subst, arith, codes}
use Rattle.std.proofs.lemmas.List.{drop_all}
use Rattle.std.specs.Prelude.{Result, OnOk, IfErr}
use Rattle.serde_json.specs.Data.{string}
use Rattle.serde_json.specs.Written.{compact_text}
use Rattle.response_model.specs.ResponseText.{comma, key_text, tree_text, elements_text, entries_text}
use Rattle.meta_schema.specs.PassedOn.{AskedNode, AskedNodes, AskedOne, asked_node, asked_nodes}
use Rattle.schema_facts.specs.Facts.{FactsData}
use Rattle.schema_facts.specs.Things.{ThingData, HeldData}
use Rattle.local_introspection.specs.declared.counting.Stop.{Stop}
use Rattle.local_introspection.specs.declared.counting.Stop.TheVariants.{TooLarge, Memory}
use Rattle.local_introspection.specs.Answers.{entries_of, elements_for}
use Rattle.local_introspection.specs.Counting.{held_under, tree_under}
use Rattle.local_introspection.specs.Walking.{own_text, entry_text, held_text, things_text}
use Rattle.local_introspection.specs.Measuring.{Measures}
use Rattle.local_introspection.proofs.CountSteps.{then_asked, front_node}

-- a key with its colon
pub key_length : (key : List ℕ) → length (key_text key) ≡ length (compact_text (string key)) + 1
key_length key = length-append (compact_text (string key)) (codes ":")

-- so much is left of what there was at the start, where this is left of the whole
abbrev pub GoesOn : ℕ → ℕ → List ℕ → List ℕ → Type 0
GoesOn start room rest whole = start + length rest ≡ room + length whole

goes_on : (start room mid still : ℕ) (front t u whole : List ℕ) → GoesOn start room (front ++ (t ++ u)) whole → room ≡ mid + length front → mid ≡ still + length t → GoesOn start still u whole
goes_on start room mid still front t u whole l e w = omega (arith, l, e, w, length-append front (t ++ u), length-append t u)

front_too_long : (start room : ℕ) (front rest whole : List ℕ) → GoesOn start room (front ++ rest) whole → room < length front → start < length whole
front_too_long start room front rest whole l w = omega (arith, l, w, length-append front rest)

goes_no_further : (T : Type 0) (start room mid still : ℕ) (stop : Stop) (front t u whole : List ℕ) → GoesOn start room (front ++ (t ++ u)) whole → room ≡ mid + length front
    → Measures {T = T} mid still (Err stop) t → Measures {T = T} start still (Err stop) whole
goes_no_further T start room mid still TooLarge front t u whole l e w = omega (arith, l, e, w, length-append front (t ++ u), length-append t u)
goes_no_further T start room mid still Memory front t u whole l e w = tt

-- where a piece doesn't fit, the walk tells that
pub told_long : (T : Type 0) (start still : ℕ) (stop : Stop) (whole : List ℕ) → stop ≡ TooLarge → start < length whole → Measures {T = T} start still (Err stop) whole
told_long T start still stop whole is less = subst (λ (s : Stop). Measures {T = T} start still (Err s) whole) (sym is) less

-- ---- entries

module _ (f : FactsData) (x : ThingData) (start : ℕ) where
  abbrev pub EntriesGoOn : ℕ → List ℕ → AskedNodes → AskedNodes → Type 0
  EntriesGoOn room front rest all = GoesOn start room (entries_text front (entries_of f rest x)) (own_text f all x)

  abbrev text_of : AskedNode → List ℕ
  text_of n = entry_text f (asked_node n) x

  -- what is left behind one node
  abbrev text_behind : List AskedNode → ℕ → List ℕ
  text_behind nodes i = entries_text comma (entries_of f (asked_nodes (drop (i + 1) nodes)) x)

  first_entry : (room : ℕ) (front : List ℕ) (nodes : List AskedNode) (i : ℕ) (n : AskedNode) → i < length nodes → n ≡ get_or nodes i n → EntriesGoOn room front (asked_nodes (drop i nodes)) (asked_nodes nodes)
      → GoesOn start room (front ++ (text_of n ++ text_behind nodes i)) (own_text f (asked_nodes nodes) x)
  unfolding entries_of
  first_entry room front nodes i n less is l =
      subst (λ (rest : AskedNodes). EntriesGoOn room front rest (asked_nodes nodes)) {y = then_asked (asked_node n) (asked_nodes (drop (i + 1) nodes))} (front_node nodes i n less is) l

  pub entries_go_on : (room mid still : ℕ) (front : List ℕ) (nodes : List AskedNode) (i : ℕ) (n : AskedNode)
      → i < length nodes → n ≡ get_or nodes i n → EntriesGoOn room front (asked_nodes (drop i nodes)) (asked_nodes nodes)
      → room ≡ mid + length front → mid ≡ still + length (text_of n) → EntriesGoOn still comma (asked_nodes (drop (i + 1) nodes)) (asked_nodes nodes)
  entries_go_on room mid still front nodes i n less is l e w =
      goes_on start room mid still front (text_of n) (text_behind nodes i) (own_text f (asked_nodes nodes) x) (first_entry room front nodes i n less is l) e w

  pub front_stops : (T : Type 0) (room still : ℕ) (stop : Stop) (front : List ℕ) (nodes : List AskedNode) (i : ℕ) (n : AskedNode)
      → i < length nodes → n ≡ get_or nodes i n → EntriesGoOn room front (asked_nodes (drop i nodes)) (asked_nodes nodes)
      → stop ≡ TooLarge → room < length front → Measures {T = T} start still (Err stop) (own_text f (asked_nodes nodes) x)
  front_stops T room still stop front nodes i n less is l large short =
      told_long T start still stop (own_text f (asked_nodes nodes) x) large
      (front_too_long start room front (text_of n ++ text_behind nodes i) (own_text f (asked_nodes nodes) x) (first_entry room front nodes i n less is l) short)

  pub entries_stop : (T : Type 0) (room mid still : ℕ) (stop : Stop) (front : List ℕ) (nodes : List AskedNode) (i : ℕ) (n : AskedNode)
      → i < length nodes → n ≡ get_or nodes i n → EntriesGoOn room front (asked_nodes (drop i nodes)) (asked_nodes nodes)
      → room ≡ mid + length front → Measures {T = T} mid still (Err stop) (text_of n) → Measures {T = T} start still (Err stop) (own_text f (asked_nodes nodes) x)
  entries_stop T room mid still stop front nodes i n less is l e w =
      goes_no_further T start room mid still stop front (text_of n) (text_behind nodes i) (own_text f (asked_nodes nodes) x) (first_entry room front nodes i n less is l) e w

  -- the closing brace is left
  brace_left : (room : ℕ) (front : List ℕ) (nodes : List AskedNode) (i : ℕ) → length nodes ≤ i → EntriesGoOn room front (asked_nodes (drop i nodes)) (asked_nodes nodes)
      → GoesOn start room (codes "}") (own_text f (asked_nodes nodes) x)
  unfolding entries_of
  brace_left room front nodes i at_most l = subst (λ (rest : List AskedNode). EntriesGoOn room front (asked_nodes rest) (asked_nodes nodes)) (drop_all i nodes at_most) l

  pub entries_end : (T : Type 0) (room still : ℕ) (result : Result T Stop) (front : List ℕ) (nodes : List AskedNode) (i : ℕ) → length nodes ≤ i → EntriesGoOn room front (asked_nodes (drop i nodes)) (asked_nodes nodes)
      → OnOk result (room ≡ still + 1) → IfErr result (λ stop. (stop ≡ TooLarge) × (room < 1)) → Measures start still result (own_text f (asked_nodes nodes) x)
  entries_end T room still (Ok done) front nodes i at_most l taken short =
      let left : start + 1 ≡ room + length (own_text f (asked_nodes nodes) x) = brace_left room front nodes i at_most l in omega (arith, left, taken)
  entries_end T room still (Err stop) front nodes i at_most l taken short =
      let left : start + 1 ≡ room + length (own_text f (asked_nodes nodes) x) = brace_left room front nodes i at_most l in
      told_long T start still stop (own_text f (asked_nodes nodes) x) short.0 (omega (arith, left, short.1))

-- ---- an entry

-- where a key doesn't fit, the entry doesn't
pub key_stops : (T : Type 0) (room still : ℕ) (stop : Stop) (key text : List ℕ) → Measures {T = T} room still (Err stop) key → Measures {T = T} room still (Err stop) (key ++ text)
key_stops T room still TooLarge key text short = omega (arith, short, length-append key text)
key_stops T room still Memory key text short = tt

behind_key : (T : Type 0) (room mid still : ℕ) (result : Result T Stop) (key text : List ℕ) → room ≡ mid + length key → Measures mid still result text → Measures room still result (key ++ text)
behind_key T room mid still (Ok done) key text e m = omega (arith, e, m, length-append key text)
behind_key T room mid still (Err TooLarge) key text e m = omega (arith, e, m, length-append key text)
behind_key T room mid still (Err Memory) key text e m = tt

pub entry_measured : (T : Type 0) (f : FactsData) (x : ThingData) (n : AskedOne) (room mid still : ℕ) (result : Result T Stop) (h : HeldData) (below : AskedNodes)
    → room ≡ mid + length (key_text n.key) → h ≡ held_under f x n → below ≡ n.below → Measures mid still result (held_text f below h) → Measures room still result (entry_text f n x)
entry_measured T f x n room mid still result h below key is same w =
    behind_key T room mid still result (key_text n.key) (tree_text (tree_under f x n)) key
    (subst (λ (b : AskedNodes). Measures mid still result (held_text f b (held_under f x n))) same (subst (λ (g : HeldData). Measures mid still result (held_text f below g)) is w))

-- ---- things

module _ (f : FactsData) (nodes : AskedNodes) (start : ℕ) where
  abbrev pub ThingsGoOn : ℕ → List ℕ → List ThingData → List ThingData → Type 0
  ThingsGoOn room front rest all = GoesOn start room (elements_text front (elements_for (entries_of f nodes) rest)) (things_text f nodes all)

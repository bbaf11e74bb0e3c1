-- Loops over entries and things: what was written and what is left give the whole.
use Rattle.std.proofs.Common.{◌≡◌, ◌+◌, ◌≤◌, ◌<◌, ℕ, List, ◌++◌, length, drop, get_or, map, ap, ◌∙◌, subst, append_assoc, codes}
use Rattle.std.proofs.lemmas.List.{drop_all}
use Rattle.std.specs.Prelude.{Result, Ok, Err, is_ok, if◌then◌else◌, OnOk}
use Rattle.response_model.specs.ResponseText.{comma, key_text, tree_text, elements_text, entries_text}
use Rattle.response_model.proofs.Pieces.{text_left}
use Rattle.meta_schema.specs.PassedOn.{AskedNode, AskedNodes, AskedOne, asked_node, asked_nodes}
use Rattle.schema_facts.specs.Facts.{FactsData}
use Rattle.schema_facts.specs.declared.things.Thing.{Thing}
use Rattle.schema_facts.specs.Things.{ThingData, HeldData, thing_data}
use Rattle.local_introspection.specs.Answers.{entries_of, elements_for}
use Rattle.local_introspection.specs.Counting.{held_under, tree_under}
use Rattle.local_introspection.specs.Walking.{thing_text, own_text, entry_text, held_text, things_text}
use Rattle.local_introspection.proofs.CountSteps.{then_asked, front_node, front_thing}

-- what follows from what holds where a call is done
pub on_ok : {T E : Type 0} (r : Result T E) (P Q : Type 0) → (P → Q) → OnOk r P → OnOk r Q
on_ok (Ok done) P Q so holds = so holds
on_ok (Err failed) P Q so holds = tt

-- a piece that was pushed stands behind what there was
pub pushed : {T E : Type 0} (r : Result T E) (old piece new : List ℕ) → new ≡ (if is_ok r then old ++ piece else old) → OnOk r (new ≡ old ++ piece)
pushed (Ok done) old piece new is = is
pushed (Err failed) old piece new is = tt

-- ---- entries

module _ (f : FactsData) (x : ThingData) (before : List ℕ) where
  abbrev pub EntriesGoOn : List ℕ → List ℕ → AskedNodes → AskedNodes → Type 0
  EntriesGoOn now front rest all = now ++ entries_text front (entries_of f rest x) ≡ before ++ own_text f all x

  pub entries_go_on : (now mid after front : List ℕ) (nodes : List AskedNode) (i : ℕ) (n : AskedNode)
      → i < length nodes → n ≡ get_or nodes i n → EntriesGoOn now front (asked_nodes (drop i nodes)) (asked_nodes nodes)
      → mid ≡ now ++ front → after ≡ mid ++ entry_text f (asked_node n) x → EntriesGoOn after comma (asked_nodes (drop (i + 1) nodes)) (asked_nodes nodes)
  unfolding entries_of
  entries_go_on now mid after front nodes i n less is l e w =
      text_left before now mid after front _ _ _ (subst (λ (rest : AskedNodes). EntriesGoOn now front rest (asked_nodes nodes)) {y = then_asked (asked_node n) (asked_nodes (drop (i + 1) nodes))} (front_node nodes i n less is) l) e w

  pub entries_end : (now after front : List ℕ) (nodes : List AskedNode) (i : ℕ) → length nodes ≤ i → EntriesGoOn now front (asked_nodes (drop i nodes)) (asked_nodes nodes) → after ≡ now ++ codes "}" → after ≡ before ++ own_text f (asked_nodes nodes) x
  unfolding entries_of
  entries_end now after front nodes i at_most l e = e ∙ subst (λ (rest : List AskedNode). EntriesGoOn now front (asked_nodes rest) (asked_nodes nodes)) (drop_all i nodes at_most) l

-- ---- things

module _ (f : FactsData) (nodes : AskedNodes) (before : List ℕ) where
  abbrev pub ThingsGoOn : List ℕ → List ℕ → List ThingData → List ThingData → Type 0
  ThingsGoOn now front rest all = now ++ elements_text front (elements_for (entries_of f nodes) rest) ≡ before ++ things_text f nodes all

  pub things_go_on : (now mid after front : List ℕ) (things : List Thing) (i : ℕ) (t : Thing)
      → i < length things → t ≡ get_or things i t → ThingsGoOn now front (map thing_data (drop i things)) (map thing_data things)
      → mid ≡ now ++ front → after ≡ mid ++ thing_text f nodes (thing_data t) → ThingsGoOn after comma (map thing_data (drop (i + 1) things)) (map thing_data things)
  things_go_on now mid after front things i t less is l e w =
      text_left before now mid after front _ _ _ (subst (λ (rest : List ThingData). ThingsGoOn now front rest (map thing_data things)) (front_thing things i t less is) l) e w

-- ---- an entry

pub entry_written : (f : FactsData) (x : ThingData) (n : AskedOne) (old mid new : List ℕ) (h : HeldData) (below : AskedNodes)
    → mid ≡ old ++ key_text n.key → h ≡ held_under f x n → below ≡ n.below → new ≡ mid ++ held_text f below h → new ≡ old ++ entry_text f n x
entry_written f x n old mid new h below key is same w =
    w ∙ ap (λ (b : AskedNodes). mid ++ held_text f b h) same ∙ ap (λ (g : HeldData). mid ++ held_text f n.below g) is
    ∙ ap (λ t. t ++ tree_text (tree_under f x n)) key ∙ append_assoc old (key_text n.key) (tree_text (tree_under f x n))

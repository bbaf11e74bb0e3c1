-- Loops over entries and things: what was counted and what is left give the whole.
use Rattle.std.proofs.Common.{◌≡◌, ◌+◌, ◌≤◌, ◌<◌, ℕ, suc, List, ◌∷◌, length, drop, get_or, map, Ok, Err, sym, ap, ◌∙◌, subst, arith, drop-cons}
use Rattle.std.proofs.lemmas.List.{drop_all}
use Rattle.std.specs.Prelude.{Result}
use Rattle.cost_num.specs.Capped.{capped}
use Rattle.cost_num.specs.declared.Cost.{Cost}
use Rattle.cost_num.specs.declared.TheConstants.{CAP}
use Rattle.response_model.specs.Cost.{Part, types, fields}
use Rattle.meta_schema.specs.PassedOn.{AskedNode, AskedNodes, AskedOne, asked_then, asked_node, asked_nodes}
use Rattle.schema_facts.specs.Facts.{FactsData}
use Rattle.schema_facts.specs.declared.things.Thing.{Thing}
use Rattle.schema_facts.specs.Things.{ThingData, HeldData, thing_data}
use Rattle.local_introspection.specs.declared.counting.Stop.{Stop}
use Rattle.local_introspection.specs.declared.counting.Stop.TheVariants.{TooLarge, Memory}
use Rattle.local_introspection.specs.Answers.{entries_of, elements_for, values_in_entries, values_in_elements, field_cost, cost_of_held, cost_of_things, cost_of_entries}
use Rattle.local_introspection.specs.Counting.{Counts, what_of, held_under, CountsThing, CountsEntries, CountsEntry, CountsHeld, CountsThings}

pub record GoesOn (start left : ℕ) (c : Cost) (count whole_count : ℕ) (costs whole_costs : Part → ℕ) : Type 0 where
  pub values_go_on : start + count ≡ left + whole_count
  pub types_go_on : capped (c.types + costs types) ≡ capped (whole_costs types)
  pub fields_go_on : capped (c.fields + costs fields) ≡ capped (whole_costs fields)
  pub types_within : c.types ≤ CAP + 1
  pub fields_within : c.fields ≤ CAP + 1

sum_goes_on : (c d s a k w : ℕ) → capped (c + (a + k)) ≡ capped w → d ≡ capped a → s ≡ capped (c + d) → capped (s + k) ≡ capped w
sum_goes_on c d s a k w l m e = omega arith

sum_stays_within : (x s : ℕ) → s ≡ capped x → s ≤ CAP + 1
sum_stays_within x s e = omega arith

goes_on : (start left still : ℕ) (c d s : Cost) (m n whole : ℕ) (a k whole_costs : Part → ℕ)
    → GoesOn start left c (m + n) whole (λ part. a part + k part) whole_costs → Counts left still (Ok d) m a → s.types ≡ capped (c.types + d.types) → s.fields ≡ capped (c.fields + d.fields)
    → GoesOn start still s n whole k whole_costs
goes_on start left still c d s m n whole a k whole_costs l w p q = record {
  values_go_on = omega (arith, l.values_go_on, w.0);
  types_go_on = sum_goes_on c.types d.types s.types (a types) (k types) (whole_costs types) l.types_go_on w.1 p;
  fields_go_on = sum_goes_on c.fields d.fields s.fields (a fields) (k fields) (whole_costs fields) l.fields_go_on w.2 q;
  types_within = sum_stays_within (c.types + d.types) s.types p;
  fields_within = sum_stays_within (c.fields + d.fields) s.fields q;
}

sum_at_the_end : (c w : ℕ) → capped (c + 0) ≡ capped w → c ≤ CAP + 1 → c ≡ capped w
sum_at_the_end c w e l = omega arith

goes_to_the_end : (start left : ℕ) (c : Cost) (whole : ℕ) (whole_costs : Part → ℕ) → GoesOn start left c 0 whole (λ part. 0) whole_costs → Counts start left (Ok c) whole whole_costs
goes_to_the_end start left c whole whole_costs l =
    (omega (arith, l.values_go_on), sum_at_the_end c.types (whole_costs types) l.types_go_on l.types_within, sum_at_the_end c.fields (whole_costs fields) l.fields_go_on l.fields_within)

goes_no_further : (start left still : ℕ) (c : Cost) (stop : Stop) (m n whole : ℕ) (costs a whole_costs : Part → ℕ)
    → GoesOn start left c (m + n) whole costs whole_costs → Counts left still (Err stop) m a → Counts start still (Err stop) whole whole_costs
goes_no_further start left still c TooLarge m n whole costs a whole_costs l w = omega (arith, l.values_go_on, w)
goes_no_further start left still c Memory m n whole costs a whole_costs l w = tt

-- ---- entries

-- one node in front of others
abbrev pub then_asked : AskedOne → AskedNodes → AskedNodes
then_asked n others = asked_then n.key n.name n.argument n.below others

pub front_node : (nodes : List AskedNode) (i : ℕ) (n : AskedNode) → i < length nodes → n ≡ get_or nodes i n → asked_nodes (drop i nodes) ≡ then_asked (asked_node n) (asked_nodes (drop (i + 1) nodes))
front_node nodes i n less is =
    let one_more : suc i ≡ i + 1 = omega arith in
    ap asked_nodes (drop-cons nodes i n less ∙ ap (λ (x : AskedNode). x ∷ drop (suc i) nodes) (sym is) ∙ ap (λ (j : ℕ). n ∷ drop j nodes) one_more)

module _ (f : FactsData) (x : ThingData) (start : ℕ) where
  abbrev pub EntriesGoOn : ℕ → Cost → AskedNodes → AskedNodes → Type 0
  EntriesGoOn left c rest all =
      GoesOn start left c (values_in_entries (entries_of f rest x)) (values_in_entries (entries_of f all x)) (λ part. cost_of_entries f part rest x) (λ part. cost_of_entries f part all x)

  opened_rest : (left : ℕ) (c : Cost) (nodes : List AskedNode) (i : ℕ) (n : AskedNode) → i < length nodes → n ≡ get_or nodes i n → EntriesGoOn left c (asked_nodes (drop i nodes)) (asked_nodes nodes)
      → EntriesGoOn left c (then_asked (asked_node n) (asked_nodes (drop (i + 1) nodes))) (asked_nodes nodes)
  opened_rest left c nodes i n less is l = subst (λ (rest : AskedNodes). EntriesGoOn left c rest (asked_nodes nodes)) (front_node nodes i n less is) l

  pub entries_go_on : (left still : ℕ) (c d s : Cost) (nodes : List AskedNode) (i : ℕ) (n : AskedNode)
      → i < length nodes → n ≡ get_or nodes i n → EntriesGoOn left c (asked_nodes (drop i nodes)) (asked_nodes nodes)
      → CountsEntry f left still (Ok d) x (asked_node n) → s.types ≡ capped (c.types + d.types) → s.fields ≡ capped (c.fields + d.fields)
      → EntriesGoOn still s (asked_nodes (drop (i + 1) nodes)) (asked_nodes nodes)
  unfolding entries_of cost_of_entries
  entries_go_on left still c d s nodes i n less is l w p q = goes_on start left still c d s _ _ _ _ _ _ (opened_rest left c nodes i n less is l) w p q

  pub entries_stop : (left still : ℕ) (c : Cost) (stop : Stop) (nodes : List AskedNode) (i : ℕ) (n : AskedNode)
      → i < length nodes → n ≡ get_or nodes i n → EntriesGoOn left c (asked_nodes (drop i nodes)) (asked_nodes nodes)
      → CountsEntry f left still (Err stop) x (asked_node n) → CountsEntries f start still (Err stop) x (asked_nodes nodes)
  unfolding entries_of cost_of_entries
  entries_stop left still c stop nodes i n less is l w = goes_no_further start left still c stop _ _ _ _ _ _ (opened_rest left c nodes i n less is l) w

  pub entries_end : (left : ℕ) (c : Cost) (nodes : List AskedNode) (i : ℕ) → length nodes ≤ i → EntriesGoOn left c (asked_nodes (drop i nodes)) (asked_nodes nodes) → CountsEntries f start left (Ok c) x (asked_nodes nodes)
  unfolding entries_of cost_of_entries
  entries_end left c nodes i at_most l = goes_to_the_end start left c _ _ (subst (λ (rest : List AskedNode). EntriesGoOn left c (asked_nodes rest) (asked_nodes nodes)) (drop_all i nodes at_most) l)

-- ---- things

pub front_thing : (things : List Thing) (i : ℕ) (t : Thing) → i < length things → t ≡ get_or things i t → map thing_data (drop i things) ≡ thing_data t ∷ map thing_data (drop (i + 1) things)
front_thing things i t less is =
    let one_more : suc i ≡ i + 1 = omega arith in
    ap (map thing_data) (drop-cons things i t less ∙ ap (λ (x : Thing). x ∷ drop (suc i) things) (sym is) ∙ ap (λ (j : ℕ). t ∷ drop j things) one_more)

module _ (f : FactsData) (nodes : AskedNodes) (start : ℕ) where
  abbrev pub ThingsGoOn : ℕ → Cost → List ThingData → List ThingData → Type 0
  ThingsGoOn left c rest all =
      GoesOn start left c (values_in_elements (elements_for (entries_of f nodes) rest)) (values_in_elements (elements_for (entries_of f nodes) all)) (λ part. cost_of_things part (cost_of_entries f part nodes) rest) (λ part. cost_of_things part (cost_of_entries f part nodes) all)

  front_first : (left : ℕ) (c : Cost) (things : List Thing) (i : ℕ) (t : Thing) → i < length things → t ≡ get_or things i t → ThingsGoOn left c (map thing_data (drop i things)) (map thing_data things)
      → ThingsGoOn left c (thing_data t ∷ map thing_data (drop (i + 1) things)) (map thing_data things)
  front_first left c things i t less is l = subst (λ (rest : List ThingData). ThingsGoOn left c rest (map thing_data things)) (front_thing things i t less is) l

  pub things_go_on : (left still : ℕ) (c d s : Cost) (things : List Thing) (i : ℕ) (t : Thing)
      → i < length things → t ≡ get_or things i t → ThingsGoOn left c (map thing_data (drop i things)) (map thing_data things)
      → CountsThing f left still (Ok d) (thing_data t) nodes → s.types ≡ capped (c.types + d.types) → s.fields ≡ capped (c.fields + d.fields)
      → ThingsGoOn still s (map thing_data (drop (i + 1) things)) (map thing_data things)
  things_go_on left still c d s things i t less is l w p q = goes_on start left still c d s _ _ _ _ _ _ (front_first left c things i t less is l) w p q

  pub things_stop : (left still : ℕ) (c : Cost) (stop : Stop) (things : List Thing) (i : ℕ) (t : Thing)
      → i < length things → t ≡ get_or things i t → ThingsGoOn left c (map thing_data (drop i things)) (map thing_data things)
      → CountsThing f left still (Err stop) (thing_data t) nodes → CountsThings f start still (Err stop) (map thing_data things) nodes
  things_stop left still c stop things i t less is l w = goes_no_further start left still c stop _ _ _ _ _ _ (front_first left c things i t less is l) w

-- ---- an entry

own_and_below : (own k d s : ℕ) → d ≡ capped k → s ≡ capped (own + d) → s ≡ capped (own + k)
own_and_below own k d s e p = omega arith

module _ (f : FactsData) (x : ThingData) (n : AskedOne) where
  counted_under : (left still : ℕ) (r : Result Cost Stop) (below : AskedNodes) (h : HeldData) → h ≡ held_under f x n → below ≡ n.below → CountsHeld f left still r h below → CountsHeld f left still r (held_under f x n) n.below
  counted_under left still r below h is same w =
      subst (λ (b : AskedNodes). CountsHeld f left still r (held_under f x n) b) same (subst (λ (g : HeldData). CountsHeld f left still r g below) is w)

  pub entry_counted : (left still : ℕ) (d s : Cost) (h : HeldData) (below : AskedNodes) (weight : ℕ)
      → h ≡ held_under f x n → below ≡ n.below → CountsHeld f left still (Ok d) h below
      → weight ≡ field_cost fields (what_of n) → s.types ≡ capped (0 + d.types) → s.fields ≡ capped (weight + d.fields) → CountsEntry f left still (Ok s) x n
  entry_counted left still d s h below weight is same w weighs p q =
      let there = counted_under left still (Ok d) below h is same w in (
        there.0,
        own_and_below 0 (cost_of_held types (cost_of_entries f types n.below) (held_under f x n)) d.types s.types there.1 p,
        own_and_below (field_cost fields (what_of n)) (cost_of_held fields (cost_of_entries f fields n.below) (held_under f x n)) d.fields s.fields there.2 (q ∙ ap (λ (k : ℕ). capped (k + d.fields)) weighs),
      )

  pub entry_stops : (left still : ℕ) (stop : Stop) (h : HeldData) (below : AskedNodes) → h ≡ held_under f x n → below ≡ n.below → CountsHeld f left still (Err stop) h below → CountsEntry f left still (Err stop) x n
  entry_stops left still TooLarge h below is same w = counted_under left still (Err TooLarge) below h is same w
  entry_stops left still Memory h below is same w = tt

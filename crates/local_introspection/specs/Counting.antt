-- What the walk counts that finds the cost of an answer.
use Rattle.std.specs.Prelude.{◌≡◌, ℕ, ◌+◌, ◌<◌, ◌≤◌, List, Result, Ok, Err, Option, Some, None, Bool, true, false}
use Rattle.serde_json.specs.Data.{Data}
use Rattle.cost_num.specs.Capped.{capped}
use Rattle.cost_num.specs.declared.Cost.{Cost}
use Rattle.response_model.specs.Cost.{Part, types, fields}
use Rattle.response_model.specs.Response.{Tree}
use Rattle.schema_facts.specs.declared.table.What.{What}
use Rattle.schema_facts.specs.Facts.{FactsData}
use Rattle.schema_facts.specs.Things.{ThingData, HeldData, the_root}
use Rattle.meta_schema.specs.PassedOn.{AskedNodes, AskedOne}
use Rattle.meta_schema.specs.Fields.{what_asked}
use Rattle.local_introspection.specs.declared.counting.Stop.{Stop}
use Rattle.local_introspection.specs.declared.counting.Stop.TheVariants.{TooLarge, Memory}
use Rattle.local_introspection.specs.Answers.{given_by, entries_of, tree_of_thing, tree_of_held, elements_for, values_in, values_in_entries, values_in_elements, field_cost, cost_of_entries, cost_of_thing, cost_of_held, cost_of_things}

-- So many values came, of this cost. Or the walk stopped: there are more values than might still come, or no memory.
abbrev pub Counts : ℕ → ℕ → Result Cost Stop → ℕ → (Part → ℕ) → Type 0
Counts left still (Ok cost) count costs = (left ≡ still + count) × (cost.types ≡ capped (costs types)) × (cost.fields ≡ capped (costs fields))
Counts left still (Err TooLarge) count costs = left < count
Counts left still (Err Memory) count costs = Unit {0}

-- It is told whether a thing is a leaf.
abbrev pub TellsLeaf : Option Data → Bool → Type 0
TellsLeaf (Some json) is_leaf = is_leaf ≡ true
TellsLeaf None is_leaf = is_leaf ≡ false

-- ---- the entry of one node

abbrev pub what_of : AskedOne → What
what_of n = what_asked n.name n.argument

module _ (f : FactsData) (x : ThingData) (n : AskedOne) where
  abbrev pub held_under : HeldData
  held_under = given_by f x n.name n.argument

  abbrev pub tree_under : Tree
  tree_under = tree_of_held (entries_of f n.below) held_under

  abbrev pub cost_under : Part → ℕ
  cost_under part = field_cost part (what_of n) + cost_of_held part (cost_of_entries f part n.below) held_under

-- ---- what each step counts: at a thing with its nodes, of its entries, of one entry, of what is held, of things in a list

module _ (f : FactsData) (left still : ℕ) (result : Result Cost Stop) where
  abbrev pub CountsThing : ThingData → AskedNodes → Type 0
  CountsThing x nodes = Counts left still result (values_in (tree_of_thing (entries_of f nodes) x)) (λ part. cost_of_thing part (cost_of_entries f part nodes) x)

  abbrev pub CountsEntries : ThingData → AskedNodes → Type 0
  CountsEntries x nodes = Counts left still result (values_in_entries (entries_of f nodes x)) (λ part. cost_of_entries f part nodes x)

  abbrev pub CountsEntry : ThingData → AskedOne → Type 0
  CountsEntry x n = Counts left still result (values_in (tree_under f x n)) (λ part. cost_under f x n part)

  abbrev pub CountsHeld : HeldData → AskedNodes → Type 0
  CountsHeld h nodes = Counts left still result (values_in (tree_of_held (entries_of f nodes) h)) (λ part. cost_of_held part (cost_of_entries f part nodes) h)

  abbrev pub CountsThings : List ThingData → AskedNodes → Type 0
  CountsThings xs nodes = Counts left still result (values_in_elements (elements_for (entries_of f nodes) xs)) (λ part. cost_of_things part (cost_of_entries f part nodes) xs)

-- ---- the whole

-- the tree of the whole answer, and what it costs
abbrev pub answer_tree : FactsData → AskedNodes → Tree
answer_tree f nodes = tree_of_thing (entries_of f nodes) the_root

abbrev pub answer_cost : FactsData → AskedNodes → Part → ℕ
answer_cost f nodes part = cost_of_thing part (cost_of_entries f part nodes) the_root

-- It is just what the one answer costs, where that has at most 1,000,000 values. Otherwise the answer is too large.
abbrev pub IsCount : FactsData → AskedNodes → Result Cost Stop → Type 0
IsCount f nodes (Ok cost) = (values_in (answer_tree f nodes) ≤ 1000000) × (cost.types ≡ answer_cost f nodes types) × (cost.fields ≡ answer_cost f nodes fields)
IsCount f nodes (Err TooLarge) = 1000000 < values_in (answer_tree f nodes)
IsCount f nodes (Err Memory) = Unit {0}

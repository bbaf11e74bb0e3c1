-- What the walk writes.
use Rattle.std.specs.Prelude.{◌≡◌, ℕ, List, [], ◌++◌, Option, Some, None, Bool, true, false}
use Rattle.serde_json.specs.Data.{Data}
use Rattle.serde_json.specs.Written.{compact_text}
use Rattle.response_model.specs.ResponseText.{tree_text, key_text, entries_text, elements_text, response_text}
use Rattle.schema_facts.specs.Facts.{FactsData}
use Rattle.schema_facts.specs.Things.{ThingData, HeldData}
use Rattle.meta_schema.specs.PassedOn.{AskedNodes, AskedOne}
use Rattle.local_introspection.specs.Answers.{entries_of, tree_of_thing, tree_of_held, elements_for}
use Rattle.local_introspection.specs.Counting.{tree_under, answer_tree}

-- A leaf was written; of a thing that is none nothing was.
abbrev pub AddsLeaf : List ℕ → List ℕ → Option Data → Bool → Type 0
AddsLeaf old new (Some json) is_leaf = (is_leaf ≡ true) × (new ≡ old ++ compact_text json)
AddsLeaf old new None is_leaf = (is_leaf ≡ false) × (new ≡ old)

-- ---- the texts of a thing, of its entries, of one entry, of what is held, of things in a list

module _ (f : FactsData) (nodes : AskedNodes) where
  abbrev pub thing_text : ThingData → List ℕ
  thing_text x = tree_text (tree_of_thing (entries_of f nodes) x)

  abbrev pub own_text : ThingData → List ℕ
  own_text x = entries_text [] (entries_of f nodes x)

  abbrev pub held_text : HeldData → List ℕ
  held_text h = tree_text (tree_of_held (entries_of f nodes) h)

  abbrev pub things_text : List ThingData → List ℕ
  things_text xs = elements_text [] (elements_for (entries_of f nodes) xs)

  -- of the whole answer
  abbrev pub answer_text : List ℕ
  answer_text = response_text (Some (answer_tree f nodes)) []

abbrev pub entry_text : FactsData → AskedOne → ThingData → List ℕ
entry_text f n x = key_text n.key ++ tree_text (tree_under f x n)

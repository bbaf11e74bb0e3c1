-- The one answer to what is asked: the tree of what is held, how many values it has, and what it costs.
use Rattle.std.specs.Prelude.{◌≡◌, ℕ, suc, ◌+◌, List, [], ◌∷◌, Option, Some, None}
use Rattle.serde_json.specs.Data.{Data}
use Rattle.cost_num.specs.declared.TheConstants.{UNIT}
use Rattle.response_model.specs.Response.{Tree, null, leaf, list_of, object, Elements, no_element, element, Entries, no_entry, entry}
use Rattle.response_model.specs.Cost.{Part, types, fields, value_cost}
use Rattle.schema_facts.specs.Facts.{FactsData}
use Rattle.schema_facts.specs.declared.table.What.{What}
use Rattle.meta_schema.specs.PassedOn.{Argument, AskedNodes, nothing_asked, asked_then}
use Rattle.schema_facts.specs.Things.{ThingData, HeldData, nothing, one, many, leaf_of}
use Rattle.meta_schema.specs.MetaTypes.{number_of, weight_of}
use Rattle.meta_schema.specs.Fields.{what_asked}
use Rattle.schema_facts.specs.Table.{held}

-- what a field gives at a thing, by its name and what is kept of its arguments
abbrev pub given_by : FactsData → ThingData → List ℕ → Argument → HeldData
given_by f x name argument = held f x (what_asked name argument)

-- ---- what is held, as a tree: every entry has what the table gives for it, and a list has just the items that it gives

module _ (f : FactsData) where
  abbrev mutual
    pub Gives : HeldData → AskedNodes → Tree → Type 0
    Gives nothing nodes null = Unit {0}
    Gives nothing nodes (leaf json) = ⊥
    Gives nothing nodes (list_of ts) = ⊥
    Gives nothing nodes (object T es) = ⊥
    Gives (one x) nodes null = ⊥
    Gives (one x) nodes (leaf json) = leaf_of x ≡ Some json
    Gives (one x) nodes (list_of ts) = ⊥
    Gives (one x) nodes (object T es) = (leaf_of x ≡ None) × (T ≡ number_of x) × HasEntries x nodes es
    Gives (many xs) nodes null = ⊥
    Gives (many xs) nodes (leaf json) = ⊥
    Gives (many xs) nodes (list_of ts) = GivesEach xs nodes ts
    Gives (many xs) nodes (object T es) = ⊥

    pub GivesEach : List ThingData → AskedNodes → Elements → Type 0
    GivesEach [] nodes no_element = Unit {0}
    GivesEach [] nodes (element t ts) = ⊥
    GivesEach (x ∷ xs) nodes no_element = ⊥
    GivesEach (x ∷ xs) nodes (element t ts) = Gives (one x) nodes t × GivesEach xs nodes ts

    pub HasEntries : ThingData → AskedNodes → Entries → Type 0
    HasEntries x nothing_asked no_entry = Unit {0}
    HasEntries x nothing_asked (entry k t es) = ⊥
    HasEntries x (asked_then key name argument below others) no_entry = ⊥
    HasEntries x (asked_then key name argument below others) (entry k t es) = (key ≡ k) × Gives (given_by f x name argument) below t × HasEntries x others es

-- ---- the tree

abbrev pub leaf_or : Option Data → Tree → Tree
leaf_or (Some json) t = leaf json
leaf_or None t = t

abbrev pub tree_of_thing : (ThingData → Entries) → ThingData → Tree
tree_of_thing entries x = leaf_or (leaf_of x) (object (number_of x) (entries x))

abbrev pub elements_for : (ThingData → Entries) → List ThingData → Elements
elements_for entries [] = no_element
elements_for entries (x ∷ xs) = element (tree_of_thing entries x) (elements_for entries xs)

abbrev pub tree_of_held : (ThingData → Entries) → HeldData → Tree
tree_of_held entries nothing = null
tree_of_held entries (one x) = tree_of_thing entries x
tree_of_held entries (many xs) = list_of (elements_for entries xs)

unfoldable pub entries_of : FactsData → AskedNodes → ThingData → Entries
entries_of f nothing_asked x = no_entry
entries_of f (asked_then key name argument below others) x = entry key (tree_of_held (λ y. entries_of f below y) (given_by f x name argument)) (entries_of f others x)

-- ---- how many values a tree has, nulls and lists among them

abbrev mutual
  pub values_in : Tree → ℕ
  values_in null = 1
  values_in (leaf json) = 1
  values_in (list_of ts) = suc (values_in_elements ts)
  values_in (object T es) = suc (values_in_entries es)

  pub values_in_elements : Elements → ℕ
  values_in_elements no_element = 0
  values_in_elements (element t ts) = values_in t + values_in_elements ts

  pub values_in_entries : Entries → ℕ
  values_in_entries no_entry = 0
  values_in_entries (entry k t es) = values_in t + values_in_entries es

-- ---- what it costs: an object one, a leaf nothing, and an entry what its field weighs

abbrev pub field_cost : Part → What → ℕ
field_cost types w = 0
field_cost fields w = weight_of w

abbrev pub unless_leaf : Option Data → ℕ → ℕ
unless_leaf (Some json) n = 0
unless_leaf None n = n

abbrev pub cost_of_thing : Part → (ThingData → ℕ) → ThingData → ℕ
cost_of_thing part below x = unless_leaf (leaf_of x) (value_cost part UNIT + below x)

abbrev pub cost_of_things : Part → (ThingData → ℕ) → List ThingData → ℕ
cost_of_things part below [] = 0
cost_of_things part below (x ∷ xs) = cost_of_thing part below x + cost_of_things part below xs

abbrev pub cost_of_held : Part → (ThingData → ℕ) → HeldData → ℕ
cost_of_held part below nothing = 0
cost_of_held part below (one x) = cost_of_thing part below x
cost_of_held part below (many xs) = cost_of_things part below xs

unfoldable pub cost_of_entries : FactsData → Part → AskedNodes → ThingData → ℕ
cost_of_entries f part nothing_asked x = 0
cost_of_entries f part (asked_then key name argument below others) x = field_cost part (what_asked name argument) + cost_of_held part (λ y. cost_of_entries f part below y) (given_by f x name argument) + cost_of_entries f part others x

-- An answer costs at most one a value.
use Rattle.std.proofs.Common.{◌≡◌, ℕ, ◌+◌, ◌*◌, ◌≤◌, List, [], ◌∷◌, Option, Some, None, arith}
use Rattle.serde_json.specs.Data.{Data}
use Rattle.cost_num.specs.declared.TheConstants.{UNIT}
use Rattle.response_model.specs.Cost.{Part, types, fields, value_cost}
use Rattle.response_model.specs.Response.{object, Entries}
use Rattle.schema_facts.specs.Facts.{FactsData}
use Rattle.schema_facts.specs.declared.table.What.{What}
use Rattle.schema_facts.specs.declared.table.What.TheVariants as what
use Rattle.meta_schema.specs.PassedOn.{AskedNodes, nothing_asked, asked_then}
use Rattle.schema_facts.specs.Things.{ThingData, HeldData, nothing, one, many, leaf_of}
use Rattle.meta_schema.specs.MetaTypes.{number_of}
use Rattle.meta_schema.specs.Fields.{what_asked}
use Rattle.local_introspection.specs.Answers.{given_by, entries_of, tree_of_thing, leaf_or, tree_of_held, elements_for, values_in, values_in_entries, values_in_elements, field_cost, unless_leaf, cost_of_thing, cost_of_things, cost_of_held, cost_of_entries}

-- what an entry may add beside its value
abbrev extra : Part → ℕ
extra types = 0
extra fields = UNIT

field_most : (p : Part) (w : What) → field_cost p w ≤ extra p
field_most types w = omega arith
field_most fields what.TypeName = omega arith
field_most fields what.Schema = omega arith
field_most fields (what.Named of) = omega arith
field_most fields what.Description = omega arith
field_most fields what.Types = omega arith
field_most fields what.QueryType = omega arith
field_most fields what.MutationType = omega arith
field_most fields what.SubscriptionType = omega arith
field_most fields what.Directives = omega arith
field_most fields what.Kind = omega arith
field_most fields what.Name = omega arith
field_most fields (what.Fields all) = omega arith
field_most fields what.Interfaces = omega arith
field_most fields what.PossibleTypes = omega arith
field_most fields (what.EnumValues all) = omega arith
field_most fields what.InputFields = omega arith
field_most fields what.OfType = omega arith
field_most fields what.SpecifiedByUrl = omega arith
field_most fields what.Args = omega arith
field_most fields what.FieldType = omega arith
field_most fields what.IsDeprecated = omega arith
field_most fields what.DeprecationReason = omega arith
field_most fields what.DefaultValue = omega arith
field_most fields what.Locations = omega arith
field_most fields what.IsRepeatable = omega arith

value_extra : (p : Part) → value_cost p UNIT + extra p ≡ UNIT
value_extra types = omega arith
value_extra fields = omega arith

extra_at_most : (p : Part) → extra p ≤ UNIT
extra_at_most types = omega arith
extra_at_most fields = omega arith

module _ (p : Part) (costs : ThingData → ℕ) (entries : ThingData → Entries) (each : (x : ThingData) → costs x ≤ UNIT * values_in_entries (entries x)) where
  thing_by : (x : ThingData) (leaf_is : Option Data) → extra p + unless_leaf leaf_is (value_cost p UNIT + costs x) ≤ UNIT * values_in (leaf_or leaf_is (object (number_of x) (entries x)))
  thing_by x (Some json) = omega (arith, extra_at_most p)
  thing_by x None = omega (arith, value_extra p, each x)

  thing_at_most : (x : ThingData) → extra p + cost_of_thing p costs x ≤ UNIT * values_in (tree_of_thing entries x)
  thing_at_most x = thing_by x (leaf_of x)

  things_at_most : (xs : List ThingData) → cost_of_things p costs xs ≤ UNIT * values_in_elements (elements_for entries xs)
  things_at_most [] = omega arith
  things_at_most (x ∷ xs) = omega (arith, thing_at_most x, things_at_most xs)

  held_at_most : (h : HeldData) → extra p + cost_of_held p costs h ≤ UNIT * values_in (tree_of_held entries h)
  held_at_most nothing = omega (arith, extra_at_most p)
  held_at_most (one x) = thing_at_most x
  held_at_most (many xs) = omega (arith, extra_at_most p, things_at_most xs)

pub entries_at_most : (f : FactsData) (p : Part) (nodes : AskedNodes) (x : ThingData) → cost_of_entries f p nodes x ≤ UNIT * values_in_entries (entries_of f nodes x)
unfolding entries_of cost_of_entries
entries_at_most f p nothing_asked x = omega arith
entries_at_most f p (asked_then key name argument below others) x =
    omega (arith, field_most p (what_asked name argument), held_at_most p (cost_of_entries f p below) (entries_of f below) (entries_at_most f p below) (given_by f x name argument), entries_at_most f p others x)

pub answer_at_most : (f : FactsData) (p : Part) (nodes : AskedNodes) (x : ThingData) → cost_of_thing p (cost_of_entries f p nodes) x ≤ UNIT * values_in (tree_of_thing (entries_of f nodes) x)
answer_at_most f p nodes x = omega (arith, thing_at_most p (cost_of_entries f p nodes) (entries_of f nodes) (entries_at_most f p nodes) x)

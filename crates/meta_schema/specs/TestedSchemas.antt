-- What is kept of a schema of schemas beside that it has passed the test. Of each of these there is one proof, so a structure may hold it.
use Rattle.std.specs.Prelude.{◌≡◌, ◌<◌, ℕ, List, length, Some}
use Rattle.std.specs.Coded.{codes}
use Rattle.schema_model.specs.Arguments.{ArgData}
use Rattle.schema_model.specs.SchemaData.{SchemaData, type_at, field_at, field_named}
use Rattle.cost_directives.specs.Weights.{WeightsData, argument_cost_in}

-- the name of the type of queries, which has the number 0
abbrev pub name_of_queries : SchemaData → List ℕ
name_of_queries s = (type_at s 0).name

-- A field that is found by its name on a type has this name, belongs to the type, and is one of the schema's.
abbrev pub FindsItsFields : SchemaData → Type 0
FindsItsFields s = (T f : ℕ) (name : List ℕ) → field_named s T name ≡ Some f → ((field_at s f).name ≡ name) × ((field_at s f).owner ≡ T) × (f < length s.fields)

-- Whatever is given for a field's arguments, it costs nothing.
abbrev pub HasFreeArguments : SchemaData → WeightsData → Type 0
HasFreeArguments s w = (f : ℕ) (args : List ArgData) → f < length s.fields → argument_cost_in w f args ≡ 0

pub finds-prop : (s : SchemaData) → IsProp (FindsItsFields s)
finds-prop s = hlevel codes

pub free-prop : (s : SchemaData) (w : WeightsData) → IsProp (HasFreeArguments s w)
free-prop s w = hlevel codes

-- Each name of a type is that of a type of the text or of a built-in scalar.
use Rattle.std.specs.Prelude.{ℕ, not, List, Option, None, Some}
use Rattle.gql_base.specs.names.Names.{has_name}
use Rattle.schema_rules.specs.Items.{ItemTree, type_mentioned}
use Rattle.schema_rules.specs.TypeNames.{NamedKind, name_of}
use Rattle.schema_rules.specs.First.{fault_where, first_of}

abbrev pub unless_known : List NamedKind → Option (List ℕ) → Option (List ℕ)
unless_known types None = None
unless_known types (Some name) = fault_where (not (has_name name_of types name)) name

abbrev pub unknown_at : List NamedKind → ItemTree → Option (List ℕ)
unknown_at types i = unless_known types (type_mentioned i)

-- the first name that no type has
abbrev pub unknown_type : List NamedKind → List ItemTree → Option (List ℕ)
unknown_type types items = first_of (unknown_at types) items

-- What a field of the schema of schemas asks, by its name and what is kept of its arguments (GraphQL October 2021, 4.2). A name that is
-- none of its fields asks what `__typename` asks.
use Rattle.std.specs.Prelude.{ℕ, List, codes, if◌then◌else◌}
use Rattle.std.specs.Str.{bytes_eq}
use Rattle.asked_fields.specs.declared.asked.Argument.{Argument}
use Rattle.schema_facts.specs.declared.table.What.{What}
use Rattle.schema_facts.specs.declared.table.What.TheVariants as what

abbrev pub member_asked : List ℕ → What
member_asked name =
    if bytes_eq name (codes "name") then what.Name
    else if bytes_eq name (codes "description") then what.Description
    else if bytes_eq name (codes "type") then what.FieldType
    else if bytes_eq name (codes "args") then what.Args
    else if bytes_eq name (codes "isDeprecated") then what.IsDeprecated
    else if bytes_eq name (codes "deprecationReason") then what.DeprecationReason
    else if bytes_eq name (codes "defaultValue") then what.DefaultValue
    else if bytes_eq name (codes "locations") then what.Locations
    else if bytes_eq name (codes "isRepeatable") then what.IsRepeatable
    else what.TypeName

abbrev pub of_type_asked : List ℕ → What
of_type_asked name =
    if bytes_eq name (codes "kind") then what.Kind
    else if bytes_eq name (codes "ofType") then what.OfType
    else if bytes_eq name (codes "interfaces") then what.Interfaces
    else if bytes_eq name (codes "possibleTypes") then what.PossibleTypes
    else if bytes_eq name (codes "inputFields") then what.InputFields
    else if bytes_eq name (codes "specifiedByURL") then what.SpecifiedByUrl
    else member_asked name

abbrev pub of_schema_asked : List ℕ → What
of_schema_asked name =
    if bytes_eq name (codes "__schema") then what.Schema
    else if bytes_eq name (codes "types") then what.Types
    else if bytes_eq name (codes "queryType") then what.QueryType
    else if bytes_eq name (codes "mutationType") then what.MutationType
    else if bytes_eq name (codes "subscriptionType") then what.SubscriptionType
    else if bytes_eq name (codes "directives") then what.Directives
    else of_type_asked name

abbrev pub what_asked : List ℕ → Argument → What
what_asked name argument =
    if bytes_eq name (codes "__type") then what.Named argument.place
    else if bytes_eq name (codes "fields") then what.Fields argument.is_true
    else if bytes_eq name (codes "enumValues") then what.EnumValues argument.is_true
    else of_schema_asked name

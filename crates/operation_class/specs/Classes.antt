-- Where an operation is answered. Only a query is answered by the gateway.
use Rattle.std.specs.Prelude.{ℕ, Bool, false, ◌||◌, ◌&&◌, not, List, [], ◌∷◌, map, Option, None, Some, codes, if◌then◌else◌}
use Rattle.std.specs.Str.{bytes_eq}
use Rattle.gql_base.specs.ways.Reading.{Identifier}
use Rattle.gql_base.specs.declared.parts.trees.OperationKind.{OperationKind}
use Rattle.gql_base.specs.declared.parts.trees.OperationKind.TheVariants.{Query, Mutation, Subscription}
use Rattle.document_reader.specs.declared.trees.Definition.{Definition}
use Rattle.document_reader.specs.declared.trees.Operation.{Operation}
use Rattle.document_reader.specs.Trees.{set_tree}
use Rattle.document_rules.specs.Parts.{fragment_data, fragments_of, operation_at}
use Rattle.document_rules.specs.Sites.{typename}
use Rattle.operation_class.specs.declared.classes.Class.{Class}
use Rattle.operation_class.specs.declared.classes.Class.TheVariants.{Upstream, Local, Mixed}
use Rattle.operation_class.specs.RootFields.{root_fields}

-- a field of the schema of schemas (GraphQL October 2021, 4.1)
abbrev pub is_meta_field : List ℕ → Bool
is_meta_field name = bytes_eq name (codes "__schema") || bytes_eq name (codes "__type")

-- a field that the schema of schemas hasn't; each type has `__typename`
abbrev pub is_further_field : List ℕ → Bool
is_further_field name = not (is_meta_field name) && not (bytes_eq name typename)

abbrev pub has_meta_field : List Identifier → Bool
has_meta_field [] = false
has_meta_field (name ∷ names) = is_meta_field name.0 || has_meta_field names

-- the offset of the first field that the schema of schemas hasn't
abbrev pub first_further_field : List Identifier → Option ℕ
first_further_field [] = None
first_further_field (name ∷ names) = if is_further_field name.0 then Some name.1 else first_further_field names

abbrev pub local_but_for : Option ℕ → Class
local_but_for None = Local
local_but_for (Some at) = Mixed at

abbrev pub class_by_fields : List Identifier → Class
class_by_fields names = if has_meta_field names then local_but_for (first_further_field names) else Upstream

abbrev pub class_of_kind : OperationKind → Class → Class
class_of_kind Query class = class
class_of_kind Mutation class = Upstream
class_of_kind Subscription class = Upstream

-- the names of the fields at the root of an operation
abbrev pub root_names : List Definition → Operation → List Identifier
root_names definitions o = root_fields (map fragment_data (fragments_of definitions)) (set_tree o.selections.items)

abbrev pub class_of : List Definition → Operation → Class
class_of definitions o = class_of_kind o.kind (class_by_fields (root_names definitions o))

abbrev pub class_there : List Definition → Option Operation → Class
class_there definitions None = Upstream
class_there definitions (Some o) = class_of definitions o

-- the class of the operation at a place among definitions
abbrev pub class_at : List Definition → ℕ → Class
class_at definitions place = class_there definitions (operation_at definitions place)

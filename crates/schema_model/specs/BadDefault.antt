-- Each default has a value: it is one of its type, and has at most 1,000 nodes with what is filled in. A default that is
-- filled with one that comes back to it has none.
use Rattle.std.specs.Prelude.{ℕ, Bool, true, false, List, Option, None, Some}
use Rattle.gql_base.specs.parts.Values.{ValueTree}
use Rattle.input_values.specs.values.Coerced.{CoercedTree}
use Rattle.input_values.specs.coercion.Forms.{InputForm}
use Rattle.schema_reader.specs.Schemas.{InputDefTree}
use Rattle.schema_rules.specs.Places.{PlaceTree}
use Rattle.schema_rules.specs.Items.{ItemTree, schema_item, root_item, type_item, interface_item, member_item, field_item, argument_item, field_type_item, enum_value_item, input_field_item, directive_item, directive_argument_item, place_of}
use Rattle.schema_rules.specs.TypeNames.{NamedKind}
use Rattle.schema_rules.specs.First.{fault_where, first_of}
use Rattle.schema_model.specs.Drafts.{InputDraft, input_draft}
use Rattle.schema_model.specs.Defaults.{default_of}

-- a default without a value
abbrev pub lacks_value : Option ValueTree → Option CoercedTree → Bool
lacks_value None value = false
lacks_value (Some literal) None = true
lacks_value (Some literal) (Some t) = false

abbrev pub is_bad_draft : (ℕ → InputForm) → InputDraft → Bool
is_bad_draft form d = lacks_value d.default (default_of form d.shape d.default)

abbrev pub is_bad_input : (ℕ → InputForm) → List NamedKind → InputDefTree → Bool
is_bad_input form types input = is_bad_draft form (input_draft types input)

abbrev pub has_bad_default : (ℕ → InputForm) → List NamedKind → ItemTree → Bool
has_bad_default form types (argument_item of field input) = is_bad_input form types input
has_bad_default form types (input_field_item of input) = is_bad_input form types input
has_bad_default form types (directive_argument_item directive input) = is_bad_input form types input
has_bad_default form types (schema_item directives) = false
has_bad_default form types (root_item kind name) = false
has_bad_default form types (type_item name kind is_empty directives) = false
has_bad_default form types (interface_item of name) = false
has_bad_default form types (member_item of name) = false
has_bad_default form types (field_item of name) = false
has_bad_default form types (field_type_item of name type directives) = false
has_bad_default form types (enum_value_item of name directives) = false
has_bad_default form types (directive_item name) = false

abbrev pub bad_default_at : (ℕ → InputForm) → List NamedKind → ItemTree → Option PlaceTree
bad_default_at form types i = fault_where (has_bad_default form types i) (place_of i)

-- the place of the first default that has no value, where types have these names and forms
abbrev pub bad_default : (ℕ → InputForm) → List NamedKind → List ItemTree → Option PlaceTree
bad_default form types items = first_of (bad_default_at form types) items

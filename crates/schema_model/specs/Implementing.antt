-- What types lack of the interfaces that they implement (GraphQL October 2021, 3.6, Type Validation).
use Rattle.std.specs.Prelude.{ℕ, Bool, false, not, ◌&&◌, ◌||◌, nat_eq, List, [], find, get_or, is_some, Option, None, Some, if◌then◌else◌}
use Rattle.std.specs.List.{list_any, list_all}
use Rattle.std.specs.Str.{bytes_eq}
use Rattle.input_values.specs.inputs.Shapes.{ShapeTree, named_shape, list_shape, is_nullable}
use Rattle.schema_rules.specs.declared.kind.Kind.TheVariants.{Scalar}
use Rattle.schema_rules.specs.Places.{PlaceTree, at_type, at_field}
use Rattle.schema_rules.specs.First.{first_of, fault_where}
use Rattle.schema_model.specs.Drafts.{InputDraft, FieldDraft, TypeDraft, bare}

-- the type of this number, or one without anything
abbrev pub draft_at : List TypeDraft → ℕ → TypeDraft
draft_at types number = get_or types number (bare [] Scalar None false)

-- whether a value of one named type is one of the other: they are the same, or it implements the interface, or it is a
-- member of the union
abbrev pub is_kind_of : List TypeDraft → ℕ → ℕ → Bool
is_kind_of types own wanted = nat_eq own wanted || (list_any (nat_eq wanted) (draft_at types own).interfaces || list_any (nat_eq own) (draft_at types wanted).members)

abbrev pub is_no_looser : Bool → Bool → Bool
is_no_looser own wanted = not own || wanted

-- whether a type is the wanted one, or a narrower one
unfoldable pub is_narrower : List TypeDraft → ShapeTree → ShapeTree → Bool
is_narrower types (named_shape own n) (named_shape wanted m) = is_no_looser n m && is_kind_of types own wanted
is_narrower types (list_shape own n) (list_shape wanted m) = is_no_looser n m && is_narrower types own wanted
is_narrower types (named_shape own n) (list_shape wanted m) = false
is_narrower types (list_shape own n) (named_shape wanted m) = false

abbrev pub agree : Bool → Bool → Bool
agree a b = if a then b else not b

unfoldable pub is_same : ShapeTree → ShapeTree → Bool
is_same (named_shape own n) (named_shape wanted m) = nat_eq own wanted && agree n m
is_same (list_shape own n) (list_shape wanted m) = agree n m && is_same own wanted
is_same (named_shape own n) (list_shape wanted m) = false
is_same (list_shape own n) (named_shape wanted m) = false

abbrev pub argument_named : List InputDraft → List ℕ → Option InputDraft
argument_named own name = find (λ d. bytes_eq d.name name) own

abbrev pub field_among : List FieldDraft → List ℕ → Option FieldDraft
field_among own name = find (λ f. bytes_eq f.name name) own

abbrev pub is_same_argument : Option InputDraft → InputDraft → Bool
is_same_argument None wanted = false
is_same_argument (Some own) wanted = is_same own.shape wanted.shape

-- whether the wanted argument is there, with the same type
abbrev pub has_argument : List InputDraft → InputDraft → Bool
has_argument own wanted = is_same_argument (argument_named own wanted.name) wanted

-- whether an argument is one of those wanted, or may be left out
abbrev pub may_be_there : List InputDraft → InputDraft → Bool
may_be_there wanted argument = list_any (λ d. bytes_eq d.name argument.name) wanted || (is_some argument.default || is_nullable argument.shape)

-- whether a field is as an interface wants it
abbrev pub is_implemented : List TypeDraft → FieldDraft → FieldDraft → Bool
is_implemented types own wanted = is_narrower types own.shape wanted.shape && (list_all (has_argument own.arguments) wanted.arguments && list_all (may_be_there wanted.arguments) own.arguments)

abbrev pub maybe_implemented : List TypeDraft → Option FieldDraft → FieldDraft → Bool
maybe_implemented types None wanted = false
maybe_implemented types (Some own) wanted = is_implemented types own wanted

abbrev pub has_field : List TypeDraft → List FieldDraft → FieldDraft → Bool
has_field types own wanted = maybe_implemented types (field_among own wanted.name) wanted

abbrev pub names_all : List ℕ → List ℕ → Bool
names_all own needed = list_all (λ n. list_any (nat_eq n) own) needed

-- whether an interface of these names one that isn't among a type's own
abbrev pub lacks_interfaces : List TypeDraft → List ℕ → List ℕ → Bool
lacks_interfaces types own some = list_any (λ i. not (names_all own (draft_at types i).interfaces)) some

abbrev pub lacking_at : List TypeDraft → List FieldDraft → FieldDraft → Option (List ℕ)
lacking_at types own wanted = fault_where (not (has_field types own wanted)) wanted.name

-- the first field of an interface that a type lacks
abbrev pub lacking_of : List TypeDraft → List FieldDraft → ℕ → Option (List ℕ)
lacking_of types own i = first_of (lacking_at types own) (draft_at types i).fields

-- the first field of these interfaces that a type lacks
abbrev pub lacking_field : List TypeDraft → List FieldDraft → List ℕ → Option (List ℕ)
lacking_field types own interfaces = first_of (lacking_of types own) interfaces

abbrev pub in_type : List ℕ → Option (List ℕ) → Option PlaceTree
in_type of None = None
in_type of (Some field) = Some (at_field of field)

-- what a type lacks: an interface, or a field of one
abbrev pub lack_at : List TypeDraft → TypeDraft → Option PlaceTree
lack_at types t = if lacks_interfaces types t.interfaces t.interfaces then Some (at_type t.name) else in_type t.name (lacking_field types t.fields t.interfaces)

-- what the first type lacks that lacks something
abbrev pub not_implemented : List TypeDraft → Option PlaceTree
not_implemented types = first_of (lack_at types) types

-- What is held suits its field, for all facts, things and fields.
use Rattle.std.proofs.Common.{◌≡◌, ℕ, ◌+◌, List, [], ◌∷◌, Bool, true, false, not, ◌||◌, Option, Some, None, map, refl}
use Rattle.std.specs.Prelude.{if◌then◌else◌}
use Rattle.std.specs.List.{AllByRecursion}
use Rattle.serde_json.specs.Data.{Data, string}
use Rattle.response_model.specs.Plan.{Form, single, listed, LeafType, numbered}
use Rattle.response_model.specs.Response.{may_be_null, is_null, IsLeafOf}
use Rattle.gql_base.specs.parts.Values.{ValueTree}
use Rattle.gql_base.specs.parts.TypeReferences.{TypeTree, named_type, list_type, non_null_type}
use Rattle.schema_reader.specs.Schemas.{NameText, InputDefTree, FieldDefTree, EnumValueTree, DefinitionTree, BodyTree, schema_body, scalar_body, object_body, interface_body, union_body, enum_body, input_body, directive_body}
use Rattle.schema_rules.specs.Items.{input_type}
use Rattle.schema_facts.specs.declared.table.What.{What}
use Rattle.schema_facts.specs.declared.table.What.TheVariants as what
use Rattle.schema_facts.specs.Facts.{FactsData, KnownTree, defined, definition_body, number_named, possible_types}
use Rattle.schema_facts.specs.Deprecations.{is_deprecated, reason_of, url_of}
use Rattle.schema_facts.specs.Things.{ThingData, the_root, the_schema, a_type, a_list_type, a_non_null_type, a_field, an_input, an_enum_value, a_directive, a_word, a_flag, a_default, HeldData, nothing, one, many, leaf_of, word, maybe_word, type_thing}
use Rattle.schema_facts.specs.Table as table
use Rattle.schema_facts.specs.Table.{held, definition_at, known_at, types_from, maybe_type, is_location}
use Rattle.meta_schema.specs.MetaTypes.{number_of}
use Rattle.meta_schema.specs.MetaForms.{form_of, below_of, leaf_type_of, holds, is_of, meta_name}

-- ---- what suits a form

-- a thing that is an object of this type
abbrev pub IsObjectOf : ℕ → ThingData → Type 0
IsObjectOf U x = (leaf_of x ≡ None) × (number_of x ≡ U)

-- a thing that is a leaf of this type
abbrev pub IsLeafFor : LeafType → Data → ThingData → Type 0
IsLeafFor type fill x = (json : Data) × (leaf_of x ≡ Some json) × (is_null json ≡ false) × IsLeafOf holds type fill json

abbrev pub Suits : Form → Option ℕ → LeafType → Data → HeldData → Type 0
Suits form below type fill nothing = may_be_null form ≡ true
Suits (single nullable) (Some U) type fill (one x) = IsObjectOf U x
Suits (single nullable) None type fill (one x) = IsLeafFor type fill x
Suits (listed nullable inner) below type fill (one x) = ⊥
Suits (listed nullable inner) (Some U) type fill (many xs) = AllByRecursion (IsObjectOf U) xs
Suits (listed nullable inner) None type fill (many xs) = AllByRecursion (IsLeafFor type fill) xs
Suits (single nullable) below type fill (many xs) = ⊥

-- ---- parts of the table

all_types : (n : ℕ) (ts : List KnownTree) → AllByRecursion (IsObjectOf 2) (types_from n ts)
all_types n [] = tt
all_types n (t ∷ ts) = ((refl, refl), all_types (n + 1) ts)

all_numbered : (ns : List ℕ) → AllByRecursion (IsObjectOf 2) (map a_type ns)
all_numbered [] = tt
all_numbered (n ∷ ns) = ((refl, refl), all_numbered ns)

all_named : (f : FactsData) (names : List NameText) → AllByRecursion (IsObjectOf 2) (map (λ of. a_type (number_named f.types of)) names)
all_named f [] = tt
all_named f (name ∷ names) = ((refl, refl), all_named f names)

all_directives : (ds : List DefinitionTree) → AllByRecursion (IsObjectOf 7) (map a_directive ds)
all_directives [] = tt
all_directives (d ∷ ds) = ((refl, refl), all_directives ds)

all_inputs : (vs : List InputDefTree) → AllByRecursion (IsObjectOf 5) (map an_input vs)
all_inputs [] = tt
all_inputs (v ∷ vs) = ((refl, refl), all_inputs vs)

shown_if : (P : ThingData → Type 0) (test : Bool) (x : ThingData) (xs : List ThingData) → P x → AllByRecursion P xs → AllByRecursion P (if test then x ∷ xs else xs)
shown_if P true x xs first rest = (first, rest)
shown_if P false x xs first rest = rest

all_fields : (all : Bool) (vs : List FieldDefTree) → AllByRecursion (IsObjectOf 4) (table.shown_fields all vs)
all_fields all [] = tt
all_fields all (v ∷ vs) = shown_if (IsObjectOf 4) (all || not (is_deprecated (table.field_directives v))) (a_field v) (table.shown_fields all vs) (refl, refl) (all_fields all vs)

all_values : (all : Bool) (vs : List EnumValueTree) → AllByRecursion (IsObjectOf 6) (table.shown_values all vs)
all_values all [] = tt
all_values all (v ∷ vs) = shown_if (IsObjectOf 6) (all || not (is_deprecated (table.value_directives v))) (an_enum_value v) (table.shown_values all vs) (refl, refl) (all_values all vs)

-- a place that is shown is a value of `__DirectiveLocation`
location_if : (fill : Data) (of : NameText) (rest : List ThingData) (test : Bool) → is_location of ≡ test → AllByRecursion (IsLeafFor (numbered 8) fill) rest → AllByRecursion (IsLeafFor (numbered 8) fill) (if test then a_word of ∷ rest else rest)
location_if fill of rest true is others = ((string of, refl, refl, is), others)
location_if fill of rest false is others = others

all_locations : (fill : Data) (names : List NameText) → AllByRecursion (IsLeafFor (numbered 8) fill) (table.location_words names)
all_locations fill [] = tt
all_locations fill (of ∷ names) = location_if fill of (table.location_words names) (is_location of) refl (all_locations fill names)

maybe_types : (type : LeafType) (fill : Data) (o : Option ℕ) → Suits (single true) (Some 2) type fill (maybe_type o)
maybe_types type fill None = refl
maybe_types type fill (Some n) = (refl, refl)

maybe_words : (fill : Data) (o : Option (List ℕ)) → Suits (single true) None (numbered 11) fill (maybe_word o)
maybe_words fill None = refl
maybe_words fill (Some text) = (_, refl, refl, refl)

maybe_defaults : (fill : Data) (o : Option ValueTree) → Suits (single true) None (numbered 11) fill (table.maybe_default o)
maybe_defaults fill None = refl
maybe_defaults fill (Some value) = (_, refl, refl, refl)

descriptions : (fill : Data) (o : Option DefinitionTree) → Suits (single true) None (numbered 11) fill (table.described o)
descriptions fill None = refl
descriptions fill (Some d) = maybe_words fill d.0

names : (fill : Data) (o : Option KnownTree) → Suits (single true) None (numbered 11) fill (table.name_of_type o)
names fill None = refl
names fill (Some t) = (_, refl, refl, refl)

references : (f : FactsData) (t : TypeTree) → IsObjectOf 2 (type_thing f t)
references f (named_type name at) = (refl, refl)
references f (list_type t) = (refl, refl)
references f (non_null_type t) = (refl, refl)

kind_in : (fill : Data) (body : BodyTree) → Suits (single false) None (numbered 3) fill (word (table.kind_word body))
kind_in fill (schema_body a) = (_, refl, refl, refl)
kind_in fill scalar_body = (_, refl, refl, refl)
kind_in fill (object_body a b) = (_, refl, refl, refl)
kind_in fill (interface_body a b) = (_, refl, refl, refl)
kind_in fill (union_body a) = (_, refl, refl, refl)
kind_in fill (enum_body a) = (_, refl, refl, refl)
kind_in fill (input_body a) = (_, refl, refl, refl)
kind_in fill (directive_body a b c) = (_, refl, refl, refl)

kinds : (fill : Data) (o : Option DefinitionTree) → Suits (single false) None (numbered 3) fill (table.kind_of_type o)
kinds fill None = (_, refl, refl, refl)
kinds fill (Some d) = kind_in fill (definition_body d)

field_in : (all : Bool) (type : LeafType) (fill : Data) (body : BodyTree) → Suits (listed true false) (Some 4) type fill (table.fields_in all body)
field_in all type fill (schema_body a) = refl
field_in all type fill scalar_body = refl
field_in all type fill (object_body a b) = all_fields all b
field_in all type fill (interface_body a b) = all_fields all b
field_in all type fill (union_body a) = refl
field_in all type fill (enum_body a) = refl
field_in all type fill (input_body a) = refl
field_in all type fill (directive_body a b c) = refl

fields_of : (all : Bool) (type : LeafType) (fill : Data) (o : Option DefinitionTree) → Suits (listed true false) (Some 4) type fill (table.in_body (table.fields_in all) o)
fields_of all type fill None = refl
fields_of all type fill (Some d) = field_in all type fill (definition_body d)

interface_in : (f : FactsData) (type : LeafType) (fill : Data) (body : BodyTree) → Suits (listed true false) (Some 2) type fill (table.interfaces_in f body)
interface_in f type fill (schema_body a) = refl
interface_in f type fill scalar_body = refl
interface_in f type fill (object_body a b) = all_named f a
interface_in f type fill (interface_body a b) = all_named f a
interface_in f type fill (union_body a) = refl
interface_in f type fill (enum_body a) = refl
interface_in f type fill (input_body a) = refl
interface_in f type fill (directive_body a b c) = refl

interfaces_of : (f : FactsData) (type : LeafType) (fill : Data) (o : Option DefinitionTree) → Suits (listed true false) (Some 2) type fill (table.in_body (table.interfaces_in f) o)
interfaces_of f type fill None = refl
interfaces_of f type fill (Some d) = interface_in f type fill (definition_body d)

value_in : (all : Bool) (type : LeafType) (fill : Data) (body : BodyTree) → Suits (listed true false) (Some 6) type fill (table.values_in all body)
value_in all type fill (schema_body a) = refl
value_in all type fill scalar_body = refl
value_in all type fill (object_body a b) = refl
value_in all type fill (interface_body a b) = refl
value_in all type fill (union_body a) = refl
value_in all type fill (enum_body a) = all_values all a
value_in all type fill (input_body a) = refl
value_in all type fill (directive_body a b c) = refl

values_of : (all : Bool) (type : LeafType) (fill : Data) (o : Option DefinitionTree) → Suits (listed true false) (Some 6) type fill (table.in_body (table.values_in all) o)
values_of all type fill None = refl
values_of all type fill (Some d) = value_in all type fill (definition_body d)

input_in : (type : LeafType) (fill : Data) (body : BodyTree) → Suits (listed true false) (Some 5) type fill (table.inputs_in body)
input_in type fill (schema_body a) = refl
input_in type fill scalar_body = refl
input_in type fill (object_body a b) = refl
input_in type fill (interface_body a b) = refl
input_in type fill (union_body a) = refl
input_in type fill (enum_body a) = refl
input_in type fill (input_body a) = all_inputs a
input_in type fill (directive_body a b c) = refl

inputs_of : (type : LeafType) (fill : Data) (o : Option DefinitionTree) → Suits (listed true false) (Some 5) type fill (table.in_body (table.inputs_in) o)
inputs_of type fill None = refl
inputs_of type fill (Some d) = input_in type fill (definition_body d)

possible_in : (type : LeafType) (fill : Data) (numbers : List ℕ) (body : BodyTree) → Suits (listed true false) (Some 2) type fill (table.possible_held (table.possible_if body numbers))
possible_in type fill numbers (schema_body a) = refl
possible_in type fill numbers scalar_body = refl
possible_in type fill numbers (object_body a b) = refl
possible_in type fill numbers (interface_body a b) = all_numbered numbers
possible_in type fill numbers (union_body a) = all_numbered numbers
possible_in type fill numbers (enum_body a) = refl
possible_in type fill numbers (input_body a) = refl
possible_in type fill numbers (directive_body a b c) = refl

possible_of : (f : FactsData) (type : LeafType) (fill : Data) (o : Option DefinitionTree) → Suits (listed true false) (Some 2) type fill (table.possible_held (table.possible_in f.types o))
possible_of f type fill None = refl
possible_of f type fill (Some d) = possible_in type fill (possible_types f.types (defined d)) (definition_body d)

url_in : (fill : Data) (d : DefinitionTree) (body : BodyTree) → Suits (single true) None (numbered 11) fill (table.url_by (table.definition_directives d) body)
url_in fill d (schema_body a) = refl
url_in fill d scalar_body = maybe_words fill (url_of (table.definition_directives d))
url_in fill d (object_body a b) = refl
url_in fill d (interface_body a b) = refl
url_in fill d (union_body a) = refl
url_in fill d (enum_body a) = refl
url_in fill d (input_body a) = refl
url_in fill d (directive_body a b c) = refl

urls : (fill : Data) (o : Option DefinitionTree) → Suits (single true) None (numbered 11) fill (table.url_in o)
urls fill None = refl
urls fill (Some d) = url_in fill d (definition_body d)

locations_of : (fill : Data) (body : BodyTree) → AllByRecursion (IsLeafFor (numbered 8) fill) (table.locations_in body)
locations_of fill (schema_body a) = tt
locations_of fill scalar_body = tt
locations_of fill (object_body a b) = tt
locations_of fill (interface_body a b) = tt
locations_of fill (union_body a) = tt
locations_of fill (enum_body a) = tt
locations_of fill (input_body a) = tt
locations_of fill (directive_body a b c) = all_locations fill c

-- ---- the table suits the fields

pub suits : (f : FactsData) (x : ThingData) (w : What) → leaf_of x ≡ None → is_of (number_of x) w ≡ true
    → Suits (form_of (number_of x) w) (below_of w) (leaf_type_of w) (string (meta_name f.query_name (number_of x))) (held f x w)
unfolding held
suits f the_root what.TypeName none of = (_, refl, refl, refl)
suits f the_root what.Schema none of = (refl, refl)
suits f the_root (what.Named o) none of = maybe_types (numbered 11) (string (meta_name f.query_name 0)) o
suits f the_root what.Description none of = cc
suits f the_root what.Types none of = cc
suits f the_root what.QueryType none of = cc
suits f the_root what.MutationType none of = cc
suits f the_root what.SubscriptionType none of = cc
suits f the_root what.Directives none of = cc
suits f the_root what.Kind none of = cc
suits f the_root what.Name none of = cc
suits f the_root (what.Fields b) none of = cc
suits f the_root what.Interfaces none of = cc
suits f the_root what.PossibleTypes none of = cc
suits f the_root (what.EnumValues b) none of = cc
suits f the_root what.InputFields none of = cc
suits f the_root what.OfType none of = cc
suits f the_root what.SpecifiedByUrl none of = cc
suits f the_root what.Args none of = cc
suits f the_root what.FieldType none of = cc
suits f the_root what.IsDeprecated none of = cc
suits f the_root what.DeprecationReason none of = cc
suits f the_root what.DefaultValue none of = cc
suits f the_root what.Locations none of = cc
suits f the_root what.IsRepeatable none of = cc
suits f the_schema what.TypeName none of = (_, refl, refl, refl)
suits f the_schema what.Schema none of = cc
suits f the_schema (what.Named o) none of = cc
suits f the_schema what.Description none of = maybe_words (string (meta_name f.query_name 1)) f.description
suits f the_schema what.Types none of = all_types 0 f.types
suits f the_schema what.QueryType none of = (refl, refl)
suits f the_schema what.MutationType none of = maybe_types (numbered 11) (string (meta_name f.query_name 1)) f.mutation
suits f the_schema what.SubscriptionType none of = maybe_types (numbered 11) (string (meta_name f.query_name 1)) f.subscription
suits f the_schema what.Directives none of = all_directives f.directives
suits f the_schema what.Kind none of = cc
suits f the_schema what.Name none of = cc
suits f the_schema (what.Fields b) none of = cc
suits f the_schema what.Interfaces none of = cc
suits f the_schema what.PossibleTypes none of = cc
suits f the_schema (what.EnumValues b) none of = cc
suits f the_schema what.InputFields none of = cc
suits f the_schema what.OfType none of = cc
suits f the_schema what.SpecifiedByUrl none of = cc
suits f the_schema what.Args none of = cc
suits f the_schema what.FieldType none of = cc
suits f the_schema what.IsDeprecated none of = cc
suits f the_schema what.DeprecationReason none of = cc
suits f the_schema what.DefaultValue none of = cc
suits f the_schema what.Locations none of = cc
suits f the_schema what.IsRepeatable none of = cc
suits f (a_type n) what.TypeName none of = (_, refl, refl, refl)
suits f (a_type n) what.Schema none of = cc
suits f (a_type n) (what.Named o) none of = cc
suits f (a_type n) what.Description none of = descriptions (string (meta_name f.query_name 2)) (definition_at f n)
suits f (a_type n) what.Types none of = cc
suits f (a_type n) what.QueryType none of = cc
suits f (a_type n) what.MutationType none of = cc
suits f (a_type n) what.SubscriptionType none of = cc
suits f (a_type n) what.Directives none of = cc
suits f (a_type n) what.Kind none of = kinds (string (meta_name f.query_name 2)) (definition_at f n)
suits f (a_type n) what.Name none of = names (string (meta_name f.query_name 2)) (known_at f n)
suits f (a_type n) (what.Fields b) none of = fields_of b (numbered 11) (string (meta_name f.query_name 2)) (definition_at f n)
suits f (a_type n) what.Interfaces none of = interfaces_of f (numbered 11) (string (meta_name f.query_name 2)) (definition_at f n)
suits f (a_type n) what.PossibleTypes none of = possible_of f (numbered 11) (string (meta_name f.query_name 2)) (definition_at f n)
suits f (a_type n) (what.EnumValues b) none of = values_of b (numbered 11) (string (meta_name f.query_name 2)) (definition_at f n)
suits f (a_type n) what.InputFields none of = inputs_of (numbered 11) (string (meta_name f.query_name 2)) (definition_at f n)
suits f (a_type n) what.OfType none of = refl
suits f (a_type n) what.SpecifiedByUrl none of = urls (string (meta_name f.query_name 2)) (definition_at f n)
suits f (a_type n) what.Args none of = cc
suits f (a_type n) what.FieldType none of = cc
suits f (a_type n) what.IsDeprecated none of = cc
suits f (a_type n) what.DeprecationReason none of = cc
suits f (a_type n) what.DefaultValue none of = cc
suits f (a_type n) what.Locations none of = cc
suits f (a_type n) what.IsRepeatable none of = cc
suits f (a_list_type t) what.TypeName none of = (_, refl, refl, refl)
suits f (a_list_type t) what.Schema none of = cc
suits f (a_list_type t) (what.Named o) none of = cc
suits f (a_list_type t) what.Description none of = refl
suits f (a_list_type t) what.Types none of = cc
suits f (a_list_type t) what.QueryType none of = cc
suits f (a_list_type t) what.MutationType none of = cc
suits f (a_list_type t) what.SubscriptionType none of = cc
suits f (a_list_type t) what.Directives none of = cc
suits f (a_list_type t) what.Kind none of = (_, refl, refl, refl)
suits f (a_list_type t) what.Name none of = refl
suits f (a_list_type t) (what.Fields b) none of = refl
suits f (a_list_type t) what.Interfaces none of = refl
suits f (a_list_type t) what.PossibleTypes none of = refl
suits f (a_list_type t) (what.EnumValues b) none of = refl
suits f (a_list_type t) what.InputFields none of = refl
suits f (a_list_type t) what.OfType none of = references f t
suits f (a_list_type t) what.SpecifiedByUrl none of = refl
suits f (a_list_type t) what.Args none of = cc
suits f (a_list_type t) what.FieldType none of = cc
suits f (a_list_type t) what.IsDeprecated none of = cc
suits f (a_list_type t) what.DeprecationReason none of = cc
suits f (a_list_type t) what.DefaultValue none of = cc
suits f (a_list_type t) what.Locations none of = cc
suits f (a_list_type t) what.IsRepeatable none of = cc
suits f (a_non_null_type t) what.TypeName none of = (_, refl, refl, refl)
suits f (a_non_null_type t) what.Schema none of = cc
suits f (a_non_null_type t) (what.Named o) none of = cc
suits f (a_non_null_type t) what.Description none of = refl
suits f (a_non_null_type t) what.Types none of = cc
suits f (a_non_null_type t) what.QueryType none of = cc
suits f (a_non_null_type t) what.MutationType none of = cc
suits f (a_non_null_type t) what.SubscriptionType none of = cc
suits f (a_non_null_type t) what.Directives none of = cc
suits f (a_non_null_type t) what.Kind none of = (_, refl, refl, refl)
suits f (a_non_null_type t) what.Name none of = refl
suits f (a_non_null_type t) (what.Fields b) none of = refl
suits f (a_non_null_type t) what.Interfaces none of = refl
suits f (a_non_null_type t) what.PossibleTypes none of = refl
suits f (a_non_null_type t) (what.EnumValues b) none of = refl
suits f (a_non_null_type t) what.InputFields none of = refl
suits f (a_non_null_type t) what.OfType none of = references f t
suits f (a_non_null_type t) what.SpecifiedByUrl none of = refl
suits f (a_non_null_type t) what.Args none of = cc
suits f (a_non_null_type t) what.FieldType none of = cc
suits f (a_non_null_type t) what.IsDeprecated none of = cc
suits f (a_non_null_type t) what.DeprecationReason none of = cc
suits f (a_non_null_type t) what.DefaultValue none of = cc
suits f (a_non_null_type t) what.Locations none of = cc
suits f (a_non_null_type t) what.IsRepeatable none of = cc
suits f (a_field v) what.TypeName none of = (_, refl, refl, refl)
suits f (a_field v) what.Schema none of = cc
suits f (a_field v) (what.Named o) none of = cc
suits f (a_field v) what.Description none of = maybe_words (string (meta_name f.query_name 4)) v.0
suits f (a_field v) what.Types none of = cc
suits f (a_field v) what.QueryType none of = cc
suits f (a_field v) what.MutationType none of = cc
suits f (a_field v) what.SubscriptionType none of = cc
suits f (a_field v) what.Directives none of = cc
suits f (a_field v) what.Kind none of = cc
suits f (a_field v) what.Name none of = (_, refl, refl, refl)
suits f (a_field v) (what.Fields b) none of = cc
suits f (a_field v) what.Interfaces none of = cc
suits f (a_field v) what.PossibleTypes none of = cc
suits f (a_field v) (what.EnumValues b) none of = cc
suits f (a_field v) what.InputFields none of = cc
suits f (a_field v) what.OfType none of = cc
suits f (a_field v) what.SpecifiedByUrl none of = cc
suits f (a_field v) what.Args none of = all_inputs (table.field_arguments v)
suits f (a_field v) what.FieldType none of = references f (table.field_type v)
suits f (a_field v) what.IsDeprecated none of = (_, refl, refl, refl)
suits f (a_field v) what.DeprecationReason none of = maybe_words (string (meta_name f.query_name 4)) (reason_of (table.field_directives v))
suits f (a_field v) what.DefaultValue none of = cc
suits f (a_field v) what.Locations none of = cc
suits f (a_field v) what.IsRepeatable none of = cc
suits f (an_input v) what.TypeName none of = (_, refl, refl, refl)
suits f (an_input v) what.Schema none of = cc
suits f (an_input v) (what.Named o) none of = cc
suits f (an_input v) what.Description none of = maybe_words (string (meta_name f.query_name 5)) v.0
suits f (an_input v) what.Types none of = cc
suits f (an_input v) what.QueryType none of = cc
suits f (an_input v) what.MutationType none of = cc
suits f (an_input v) what.SubscriptionType none of = cc
suits f (an_input v) what.Directives none of = cc
suits f (an_input v) what.Kind none of = cc
suits f (an_input v) what.Name none of = (_, refl, refl, refl)
suits f (an_input v) (what.Fields b) none of = cc
suits f (an_input v) what.Interfaces none of = cc
suits f (an_input v) what.PossibleTypes none of = cc
suits f (an_input v) (what.EnumValues b) none of = cc
suits f (an_input v) what.InputFields none of = cc
suits f (an_input v) what.OfType none of = cc
suits f (an_input v) what.SpecifiedByUrl none of = cc
suits f (an_input v) what.Args none of = cc
suits f (an_input v) what.FieldType none of = references f (input_type v)
suits f (an_input v) what.IsDeprecated none of = cc
suits f (an_input v) what.DeprecationReason none of = cc
suits f (an_input v) what.DefaultValue none of = maybe_defaults (string (meta_name f.query_name 5)) (table.input_default v)
suits f (an_input v) what.Locations none of = cc
suits f (an_input v) what.IsRepeatable none of = cc
suits f (an_enum_value v) what.TypeName none of = (_, refl, refl, refl)
suits f (an_enum_value v) what.Schema none of = cc
suits f (an_enum_value v) (what.Named o) none of = cc
suits f (an_enum_value v) what.Description none of = maybe_words (string (meta_name f.query_name 6)) v.0
suits f (an_enum_value v) what.Types none of = cc
suits f (an_enum_value v) what.QueryType none of = cc
suits f (an_enum_value v) what.MutationType none of = cc
suits f (an_enum_value v) what.SubscriptionType none of = cc
suits f (an_enum_value v) what.Directives none of = cc
suits f (an_enum_value v) what.Kind none of = cc
suits f (an_enum_value v) what.Name none of = (_, refl, refl, refl)
suits f (an_enum_value v) (what.Fields b) none of = cc
suits f (an_enum_value v) what.Interfaces none of = cc
suits f (an_enum_value v) what.PossibleTypes none of = cc
suits f (an_enum_value v) (what.EnumValues b) none of = cc
suits f (an_enum_value v) what.InputFields none of = cc
suits f (an_enum_value v) what.OfType none of = cc
suits f (an_enum_value v) what.SpecifiedByUrl none of = cc
suits f (an_enum_value v) what.Args none of = cc
suits f (an_enum_value v) what.FieldType none of = cc
suits f (an_enum_value v) what.IsDeprecated none of = (_, refl, refl, refl)
suits f (an_enum_value v) what.DeprecationReason none of = maybe_words (string (meta_name f.query_name 6)) (reason_of (table.value_directives v))
suits f (an_enum_value v) what.DefaultValue none of = cc
suits f (an_enum_value v) what.Locations none of = cc
suits f (an_enum_value v) what.IsRepeatable none of = cc
suits f (a_directive d) what.TypeName none of = (_, refl, refl, refl)
suits f (a_directive d) what.Schema none of = cc
suits f (a_directive d) (what.Named o) none of = cc
suits f (a_directive d) what.Description none of = maybe_words (string (meta_name f.query_name 7)) d.0
suits f (a_directive d) what.Types none of = cc
suits f (a_directive d) what.QueryType none of = cc
suits f (a_directive d) what.MutationType none of = cc
suits f (a_directive d) what.SubscriptionType none of = cc
suits f (a_directive d) what.Directives none of = cc
suits f (a_directive d) what.Kind none of = cc
suits f (a_directive d) what.Name none of = (_, refl, refl, refl)
suits f (a_directive d) (what.Fields b) none of = cc
suits f (a_directive d) what.Interfaces none of = cc
suits f (a_directive d) what.PossibleTypes none of = cc
suits f (a_directive d) (what.EnumValues b) none of = cc
suits f (a_directive d) what.InputFields none of = cc
suits f (a_directive d) what.OfType none of = cc
suits f (a_directive d) what.SpecifiedByUrl none of = cc
suits f (a_directive d) what.Args none of = all_inputs (table.directive_arguments (definition_body d))
suits f (a_directive d) what.FieldType none of = cc
suits f (a_directive d) what.IsDeprecated none of = cc
suits f (a_directive d) what.DeprecationReason none of = cc
suits f (a_directive d) what.DefaultValue none of = cc
suits f (a_directive d) what.Locations none of = locations_of (string (meta_name f.query_name 7)) (definition_body d)
suits f (a_directive d) what.IsRepeatable none of = (_, refl, refl, refl)
suits f (a_word text) w none of = cc
suits f (a_flag is) w none of = cc
suits f (a_default value) w none of = cc

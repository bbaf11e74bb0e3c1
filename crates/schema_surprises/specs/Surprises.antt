-- What in a good schema surprises where it is served: sizes that nobody declared, weights that stand elsewhere, scalars of one's own.
use Rattle.std.specs.Prelude.{ℕ, nat_eq, Bool, true, false, not, ◌&&◌, ◌||◌, List, [], ◌∷◌, ◌++◌, map, length, flat_map, codes, Option, None, Some}
use Rattle.std.specs.List.{list_any, filter}
use Rattle.std.specs.Str.{bytes_eq}
use Rattle.std.specs.Option.{is_some}
use Rattle.std.specs.Fmt.{decimal}
use Rattle.input_values.specs.inputs.Definitions.{InputData}
use Rattle.schema_rules.specs.Kinds.{is_scalar, is_object}
use Rattle.schema_model.specs.SchemaData.{SchemaData, FieldData, SizeData, field_at, type_at, root_of, applies}
use Rattle.cost_directives.specs.declared.sources.SizeSource.{SizeSource}
use Rattle.cost_directives.specs.declared.sources.SizeSource.TheVariants.{Handed, Sliced, Assumed, Free, Undeclared}
use Rattle.cost_directives.specs.SizeSources.{size_source_in}
use Rattle.cost_directives.specs.DeclaredSizes.{is_value, is_empty, is_one}
use Rattle.cost_directives.specs.Weighing.{type_inside, is_list_shape, inherited, own_size, own_weight}
use Rattle.cost_directives.specs.Weights.{WeightsData, field_in, type_numbers, field_numbers}
use Rattle.cost_directives.specs.FieldPlaces.{place_of_field}
use Rattle.schema_surprises.specs.declared.surprise.Surprise.{Surprise}
use Rattle.schema_surprises.specs.declared.surprise.Surprise.TheVariants.{Unsized, Unsliced, MustSlice, Inherited}

-- ---- fields

-- what `@listSize` says of a field, at the field itself or in an interface
abbrev pub listed : SchemaData → FieldData → Option SizeData
listed s f = inherited s own_size f

abbrev pub is_number : Option ℕ → ℕ → Bool
is_number None of = false
is_number (Some n) of = nat_eq n of

abbrev pub slicing_names : Option SizeData → List (List ℕ)
slicing_names None = []
slicing_names (Some size) = size.slicing

abbrev pub requires_one : Option SizeData → Bool
requires_one None = false
requires_one (Some size) = size.require_one

-- some argument slices
abbrev pub is_sliced : Option SizeData → Bool
is_sliced size = not (is_empty (slicing_names size))

abbrev pub is_named : List (List ℕ) → List ℕ → Bool
is_named names name = list_any (bytes_eq name) names

-- an argument that slices, where these do, and has a default
abbrev pub slices_by_default : List (List ℕ) → InputData → Bool
slices_by_default names argument = is_named names argument.name && is_value argument.default

-- how many of these arguments slice and have a default
abbrev pub defaults_among : List (List ℕ) → List InputData → ℕ
defaults_among names arguments = length (filter (slices_by_default names) arguments)

abbrev pub defaults_of : SchemaData → FieldData → ℕ
defaults_of s f = defaults_among (slicing_names (listed s f)) f.arguments

abbrev pub is_undeclared : SizeSource → Bool
is_undeclared (Undeclared n) = true
is_undeclared (Handed n) = false
is_undeclared (Sliced place z) = false
is_undeclared (Assumed z) = false
is_undeclared Free = false

-- Where it has no argument, and no size is handed down, the size is that of lists that declare none.
abbrev pub has_usual_size : WeightsData → ℕ → Bool
has_usual_size w number = is_undeclared (size_source_in w number [] None)

-- it declares no size at all
abbrev pub declares_none : SchemaData → WeightsData → ℕ → Bool
declares_none s w n = not (is_sliced (listed s (field_at s n))) && has_usual_size w n

-- it declares none where no argument that slices it is given
abbrev pub declares_none_unsliced : SchemaData → WeightsData → ℕ → Bool
declares_none_unsliced s w n = is_sliced (listed s (field_at s n)) && (not (requires_one (listed s (field_at s n)))
    && (nat_eq (defaults_of s (field_at s n)) 0 && has_usual_size w n))

abbrev pub is_unsized : SchemaData → WeightsData → ℕ → Bool
is_unsized s w n = is_list_shape (field_at s n).shape && declares_none s w n

abbrev pub is_unsliced : SchemaData → WeightsData → ℕ → Bool
is_unsliced s w n = is_list_shape (field_at s n).shape && declares_none_unsliced s w n

-- a field that is refused where none of its slicing arguments is given: one is required, and not just one has a default
abbrev pub must_be_sliced : SchemaData → ℕ → Bool
must_be_sliced s n = is_sliced (listed s (field_at s n)) && (requires_one (listed s (field_at s n)) && not (is_one (defaults_of s (field_at s n))))

-- a field whose weight stands in an interface alone
abbrev pub has_inherited_weight : SchemaData → ℕ → Bool
has_inherited_weight s n = not (is_some (own_weight (field_at s n))) && is_some (inherited s own_weight (field_at s n))

-- ---- sizes that are handed down

-- its `sizedFields` name some
abbrev pub hands_some : WeightsData → ℕ → Bool
hands_some w n = not (is_empty (field_in w n).size.sized)

abbrev pub handing_fields : SchemaData → WeightsData → List ℕ
handing_fields s w = filter (hands_some w) (field_numbers s)

-- By its `sizedFields` a field hands a size that it declares down to lists of this name.
abbrev pub hands_size : SchemaData → WeightsData → List ℕ → ℕ → Bool
hands_size s w name n = is_named (field_in w n).size.sized name && (not (declares_none s w n) && not (declares_none_unsliced s w n))

abbrev pub is_of_object : SchemaData → ℕ → Bool
is_of_object s n = is_object (type_at s (field_at s n).owner).kind

-- A field of an object type leads to objects of a type: one may stand in its value.
abbrev pub leads_to : SchemaData → ℕ → ℕ → Bool
leads_to s of n = is_of_object s n && applies s (type_inside (field_at s n).shape) of

-- it hands such a size down, or it doesn't
abbrev pub hands_as : Bool → SchemaData → WeightsData → List ℕ → ℕ → Bool
hands_as true s w name n = hands_size s w name n
hands_as false s w name n = not (hands_size s w name n)

-- a way there: a field that leads there, and hands such a size down, or doesn't
abbrev pub is_way : Bool → SchemaData → WeightsData → ℕ → List ℕ → ℕ → Bool
is_way hands s w of name n = leads_to s of n && hands_as hands s w name n

abbrev pub is_root : SchemaData → ℕ → Bool
is_root s of = is_number (root_of s false) of || is_number (root_of s true) of

-- On each way to it a list of this name in this type is handed a size: no operation begins in its type, and each field that leads there hands one down.
abbrev pub is_handed_in : SchemaData → WeightsData → ℕ → List ℕ → Bool
is_handed_in s w of name = list_any (is_way true s w of name) (handing_fields s w) && (not (is_root s of) && not (list_any (is_way false s w of name) (field_numbers s)))

abbrev pub is_handed : SchemaData → WeightsData → ℕ → Bool
is_handed s w n = is_handed_in s w (field_at s n).owner (field_at s n).name

-- ---- which fields are told

-- Of what is handed a size on each way its own says nothing.
abbrev pub surprises_at : Surprise → SchemaData → WeightsData → ℕ → Bool
surprises_at Unsized s w n = is_unsized s w n && not (is_handed s w n)
surprises_at Unsliced s w n = is_unsliced s w n && not (is_handed s w n)
surprises_at MustSlice s w n = must_be_sliced s n && not (is_handed s w n)
surprises_at Inherited s w n = has_inherited_weight s n

-- Nodes of operations stand in objects, so fields of interfaces aren't told.
abbrev pub is_told : Surprise → SchemaData → WeightsData → ℕ → Bool
is_told surprise s w n = is_of_object s n && surprises_at surprise s w n

-- the places of the fields of object types of which this is so, in the order of the text
abbrev pub places_of : Surprise → SchemaData → WeightsData → List (List ℕ)
places_of surprise s w = map (λ n. place_of_field s (field_at s n)) (filter (is_told surprise s w) (field_numbers s))

-- ---- scalars

abbrev pub is_own_scalar : SchemaData → ℕ → Bool
is_own_scalar s n = is_scalar (type_at s n).kind && not (type_at s n).lax

-- the names of the scalars that the text defines, but for those that may hold numbers that aren't whole
abbrev pub own_scalars : SchemaData → List (List ℕ)
own_scalars s = map (λ n. (type_at s n).name) (filter (is_own_scalar s) (type_numbers s))

-- ---- what is told

abbrev pub told_line : List ℕ → List ℕ
told_line text = text ++ (10 ∷ [])

abbrev pub indented : List ℕ → List ℕ
indented name = codes "  " ++ told_line name

-- a sentence, and the names of which it holds, each on a line; nothing where there are none
abbrev pub group_text : List ℕ → List (List ℕ) → List ℕ
group_text sentence [] = []
group_text sentence (name ∷ names) = told_line sentence ++ (indented name ++ flat_map indented names)

abbrev pub sentence_of : Surprise → ℕ → List ℕ
sentence_of Unsized usual = codes "These lists declare no size. Where no field above hands one down, they are taken to have " ++ (decimal usual ++ codes " items:")
sentence_of Unsliced usual = codes "No argument that slices these lists has a default. Where none is given, and no field above hands a size down, they are taken to have " ++ (decimal usual ++ codes " items:")
sentence_of MustSlice usual = codes "Where no field above hands a size down, an operation has to give one of the arguments that slice these fields, since not just one of them has a default:"
sentence_of Inherited usual = codes "The weight of these fields stands in an interface:"

abbrev pub scalar_sentence : List ℕ
scalar_sentence = codes "Of these scalars no number with a fraction is taken:"

abbrev pub field_group : SchemaData → WeightsData → Surprise → List ℕ
field_group s w surprise = group_text (sentence_of surprise w.undeclared) (places_of surprise s w)

abbrev pub count_text : List ℕ → ℕ → List ℕ
count_text word n = word ++ (32 ∷ decimal n)

abbrev pub counts_told : ℕ → ℕ → List ℕ
counts_told types fields = count_text (codes "types") types ++ count_text (codes " fields") fields

abbrev pub count_told : List ℕ → List (List ℕ) → List ℕ
count_told word names = count_text word (length names)

-- how many fields there are of each surprise, in the order of the groups, and how many scalars
abbrev pub found_told : List (List ℕ) → List (List ℕ) → List (List ℕ) → List (List ℕ) → List (List ℕ) → List ℕ
found_told unsized unsliced must_slice inherited scalars = count_told (codes " unsized") unsized ++ (count_told (codes " unsliced") unsliced
    ++ (count_told (codes " must-slice") must_slice ++ (count_told (codes " inherited") inherited ++ count_told (codes " scalars") scalars)))

-- how many types and fields there are, and how many of each surprise
abbrev pub counts_text : SchemaData → WeightsData → List ℕ
counts_text s w = counts_told s.defined (length s.fields)
    ++ found_told (places_of Unsized s w) (places_of Unsliced s w) (places_of MustSlice s w) (places_of Inherited s w) (own_scalars s)

-- the groups of which there are some, and the counts
abbrev pub report_text : SchemaData → WeightsData → List ℕ
report_text s w = field_group s w Unsized ++ (field_group s w Unsliced ++ (field_group s w MustSlice ++ (field_group s w Inherited
    ++ (group_text scalar_sentence (own_scalars s) ++ counts_text s w))))

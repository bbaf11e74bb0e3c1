-- What is found in a document depends on the trees of its definitions and on the offsets of its operations alone.
use Rattle.std.proofs.Common.{◌≡◌, ◌∙◌, ℕ, suc, ◌+◌, Bool, true, false, List, [], ◌∷◌, map, Option, None, Some, refl, sym, ap, ap₂}
use Rattle.std.specs.Prelude.{slice_get, option_map, is_some, not, nat_lt, length, if◌then◌else◌}
use Rattle.std.specs.Str.{bytes_eq}
use Rattle.std.proofs.lemmas.List.{length-map}
use Rattle.std.proofs.lemmas.Option.{same_Some, slice_get-map}
use Rattle.gql_base.specs.ways.Reading.{Identifier}
use Rattle.gql_base.specs.declared.parts.trees.Name.{Name}
use Rattle.document_reader.specs.declared.trees.Operation.{Operation}
use Rattle.document_reader.specs.declared.trees.Definition.{Definition}
use Rattle.document_reader.specs.declared.trees.Definition.TheVariants.{Op, Frag}
use Rattle.document_reader.specs.Documents.{DefinitionTree, operation_tree, fragment_tree}
use Rattle.document_reader.specs.Trees.{maybe_identifier, tree_of_operation, definition_tree}
use Rattle.document_reader.specs.Places.{operation_offset}
use Rattle.document_reader.specs.Picking.{is_operation, same_name, is_named, first_where, count_where, alone, there, picked_with, picked}
use Rattle.schema_rules.specs.First.{or_else, fault_where, first_of}
use Rattle.document_rules.specs.Parts.{FragmentData, fragment_data, operations_of, fragments_of, operation_in, operation_at, repeated_at}
use Rattle.document_rules.specs.Rules.{before_names, operation_names, name_of_fragment, earlier, anonymous_at, lone_anonymous, repeated_name}
use Rattle.document_rules.specs.Checking.{fragments_in}

-- ---- lists of which the same is seen

heads : {A : Type 0} (x y : A) (xs ys : List A) → ◌≡◌ {A = List A} (x ∷ xs) (y ∷ ys) → x ≡ y
heads x y xs ys same = cc

tails : {A : Type 0} (x y : A) (xs ys : List A) → ◌≡◌ {A = List A} (x ∷ xs) (y ∷ ys) → xs ≡ ys
tails x y xs ys same = cc

no_front : {A B : Type 0} (x : A) (xs : List A) → ◌≡◌ {A = List A} (x ∷ xs) [] → B
no_front x xs same = absurd (cc)

pub seen_alike : {A B C : Type 0} (view : A → C) (seen : A → B) (of : B → C) → ((x : A) → view x ≡ of (seen x)) → (xs ys : List A) → map seen xs ≡ map seen ys → map view xs ≡ map view ys
seen_alike {A} view seen of is xs ys same = by_seen xs ∙ (ap (map of) same ∙ sym (by_seen ys))
  where
    by_seen : (zs : List A) → map view zs ≡ map of (map seen zs)
    by_seen [] = refl
    by_seen (z ∷ zs) = ap₂ (λ c cs. c ∷ cs) (is z) (by_seen zs)

first_alike : {A F : Type 0} (test : A → Option F) (xs ys : List A) → map test xs ≡ map test ys → first_of test xs ≡ first_of test ys
first_alike test [] [] same = refl
first_alike test [] (y ∷ ys) same = no_front (test y) (map test ys) (sym same)
first_alike test (x ∷ xs) [] same = no_front (test x) (map test xs) same
first_alike test (x ∷ xs) (y ∷ ys) same = ap₂ or_else (heads (test x) (test y) _ _ same) (first_alike test xs ys (tails (test x) (test y) _ _ same))

-- ---- documents

-- what is seen of a definition
abbrev pub Seen : Type 0
Seen = DefinitionTree × Option ℕ

abbrev pub seen_in : Definition → Seen
seen_in d = (definition_tree d, operation_offset d)

abbrev pub seen_of : Operation → Seen
seen_of o = (tree_of_operation o, Some o.at)

pub seen_together : (ds es : List Definition) → map definition_tree ds ≡ map definition_tree es → map operation_offset ds ≡ map operation_offset es → map seen_in ds ≡ map seen_in es
seen_together [] [] trees offsets = refl
seen_together [] (e ∷ es) trees offsets = no_front (definition_tree e) (map definition_tree es) (sym trees)
seen_together (d ∷ ds) [] trees offsets = no_front (definition_tree d) (map definition_tree ds) trees
seen_together (d ∷ ds) (e ∷ es) trees offsets =
    ap₂ (λ x xs. x ∷ xs)
    (ap₂ (λ t at. (t, at)) (heads (definition_tree d) (definition_tree e) _ _ trees) (heads (operation_offset d) (operation_offset e) _ _ offsets))
    (seen_together ds es (tails (definition_tree d) (definition_tree e) _ _ trees) (tails (operation_offset d) (operation_offset e) _ _ offsets))

-- ---- which operation is picked

abbrev is_operation_tree : DefinitionTree → Bool
is_operation_tree (operation_tree kind name variables directives below) = true
is_operation_tree (fragment_tree name on directives below) = false

abbrev is_name : List ℕ → Option Identifier → Bool
is_name bytes None = false
is_name bytes (Some name) = bytes_eq name.0 bytes

abbrev is_named_tree : List ℕ → DefinitionTree → Bool
is_named_tree bytes (operation_tree kind name variables directives below) = is_name bytes name
is_named_tree bytes (fragment_tree name on directives below) = false

operation_seen : (d : Definition) → is_operation d ≡ is_operation_tree (definition_tree d)
operation_seen (Op o) = refl
operation_seen (Frag f) = refl

named_seen : (bytes : List ℕ) (d : Definition) → is_named bytes d ≡ is_named_tree bytes (definition_tree d)
named_seen bytes (Op o) = of_name o.name
  where
    of_name : (name : Option Name) → same_name bytes name ≡ is_name bytes (maybe_identifier name)
    of_name None = refl
    of_name (Some name) = refl
named_seen bytes (Frag f) = refl

first_place : (test : Definition → Bool) (ds es : List Definition) (at : ℕ) → map test ds ≡ map test es → first_where test at ds ≡ first_where test at es
unfolding first_where
first_place test [] [] at same = refl
first_place test [] (e ∷ es) at same = no_front (test e) (map test es) (sym same)
first_place test (d ∷ ds) [] at same = no_front (test d) (map test ds) same
first_place test (d ∷ ds) (e ∷ es) at same = ap₂ (λ b later. if b then Some at else later) (heads (test d) (test e) _ _ same) (first_place test ds es (suc at) (tails (test d) (test e) _ _ same))

same_count : (test : Definition → Bool) (ds es : List Definition) → map test ds ≡ map test es → count_where test ds ≡ count_where test es
unfolding count_where
same_count test [] [] same = refl
same_count test [] (e ∷ es) same = no_front (test e) (map test es) (sym same)
same_count test (d ∷ ds) [] same = no_front (test d) (map test ds) same
same_count test (d ∷ ds) (e ∷ es) same = ap₂ (λ b n. (if b then 1 else 0) + n) (heads (test d) (test e) _ _ same) (same_count test ds es (tails (test d) (test e) _ _ same))

pub same_pick : (name : Option (List ℕ)) (ds es : List Definition) → map definition_tree ds ≡ map definition_tree es → picked name ds ≡ picked name es
same_pick name ds es same = ap (picked_with name ds) (first_place is_operation ds es 0 operations) ∙ with_first name (first_where is_operation 0 es)
  where
    operations : map is_operation ds ≡ map is_operation es
    operations = seen_alike is_operation definition_tree is_operation_tree operation_seen ds es same

    named : (bytes : List ℕ) → map (is_named bytes) ds ≡ map (is_named bytes) es
    named bytes = seen_alike (is_named bytes) definition_tree (is_named_tree bytes) (named_seen bytes) ds es same

    with_first : (name : Option (List ℕ)) (first : Option ℕ) → picked_with name ds first ≡ picked_with name es first
    with_first name None = refl
    with_first None (Some first) = ap (alone first) (same_count is_operation ds es operations)
    with_first (Some bytes) (Some first) = ap there (first_place (is_named bytes) ds es 0 (named bytes))

-- ---- the operation at a place

abbrev if_operation : Seen → Option Seen
if_operation (operation_tree kind name variables directives below, at) = Some (operation_tree kind name variables directives below, at)
if_operation (fragment_tree name on directives below, at) = None

abbrev if_there : Option Seen → Option Seen
if_there None = None
if_there (Some seen) = if_operation seen

operation_there : (d : Option Definition) → option_map seen_of (operation_in d) ≡ if_there (option_map seen_in d)
operation_there None = refl
operation_there (Some (Op o)) = refl
operation_there (Some (Frag f)) = refl

seen_at : (ds : List Definition) (place : ℕ) → option_map seen_of (operation_at ds place) ≡ if_there (slice_get (map seen_in ds) place)
seen_at ds place = operation_there (slice_get ds place) ∙ ap if_there (sym (slice_get-map seen_in ds place))

-- Where an operation stands in one document, one that looks the same stands in the other.
pub operation_alike : (ds es : List Definition) (place : ℕ) (o : Operation) → map seen_in ds ≡ map seen_in es → operation_at ds place ≡ Some o → (p : Operation) × (operation_at es place ≡ Some p) × (seen_of o ≡ seen_of p)
operation_alike ds es place o same there =
    of_seen (operation_at es place) (sym (ap (option_map seen_of) there) ∙ (seen_at ds place ∙ (ap (λ seen. if_there (slice_get seen place)) same ∙ sym (seen_at es place))))
  where
    of_seen : (found : Option Operation) → Some (seen_of o) ≡ option_map seen_of found → (p : Operation) × (found ≡ Some p) × (seen_of o ≡ seen_of p)
    of_seen None is = absurd (cc)
    of_seen (Some p) is = (p, refl, same_Some (seen_of o) (seen_of p) is)

-- ---- fragments, and the rules on the whole document

abbrev before_fragment : DefinitionTree → List FragmentData → List FragmentData
before_fragment (operation_tree kind name variables directives below) others = others
before_fragment (fragment_tree name on directives below) others = record { name = name; on = on; directives = directives; below = below } ∷ others

abbrev fragments_seen : List DefinitionTree → List FragmentData
fragments_seen [] = []
fragments_seen (t ∷ trees) = before_fragment t (fragments_seen trees)

fragments_by_trees : (ds : List Definition) → fragments_in ds ≡ fragments_seen (map definition_tree ds)
fragments_by_trees [] = refl
fragments_by_trees (Op o ∷ ds) = fragments_by_trees ds
fragments_by_trees (Frag f ∷ ds) = ap (λ others. fragment_data f ∷ others) (fragments_by_trees ds)

pub same_fragments : (ds es : List Definition) → map definition_tree ds ≡ map definition_tree es → fragments_in ds ≡ fragments_in es
same_fragments ds es same = fragments_by_trees ds ∙ (ap fragments_seen same ∙ sym (fragments_by_trees es))

abbrev before_operation : Option Seen → List Seen → List Seen
before_operation None others = others
before_operation (Some seen) others = seen ∷ others

abbrev operations_seen : List Seen → List Seen
operations_seen [] = []
operations_seen (d ∷ others) = before_operation (if_operation d) (operations_seen others)

operations_by_seen : (ds : List Definition) → map seen_of (operations_of ds) ≡ operations_seen (map seen_in ds)
operations_by_seen [] = refl
operations_by_seen (Op o ∷ ds) = ap (λ others. seen_of o ∷ others) (operations_by_seen ds)
operations_by_seen (Frag f ∷ ds) = operations_by_seen ds

same_operations : (ds es : List Definition) → map seen_in ds ≡ map seen_in es → map seen_of (operations_of ds) ≡ map seen_of (operations_of es)
same_operations ds es same = operations_by_seen ds ∙ (ap operations_seen same ∙ sym (operations_by_seen es))

abbrev name_seen : Seen → Option Identifier
name_seen (operation_tree kind name variables directives below, at) = name
name_seen (fragment_tree name on directives below, at) = None

abbrev names_before : List (Option Identifier) → List Identifier
names_before [] = []
names_before (name ∷ names) = before_names name (names_before names)

names_by_seen : (os : List Operation) → operation_names os ≡ names_before (map name_seen (map seen_of os))
names_by_seen [] = refl
names_by_seen (o ∷ os) = ap (before_names (maybe_identifier o.name)) (names_by_seen os)

pub same_repeated_name : (ds es : List Definition) → map seen_in ds ≡ map seen_in es → map definition_tree ds ≡ map definition_tree es → repeated_name ds ≡ repeated_name es
same_repeated_name ds es seen trees = ap₂ (λ a b. earlier (repeated_at a) (repeated_at b)) of_operations of_fragments
  where
    of_operations : operation_names (operations_of ds) ≡ operation_names (operations_of es)
    of_operations = names_by_seen (operations_of ds) ∙ (ap (λ os. names_before (map name_seen os)) (same_operations ds es seen) ∙ sym (names_by_seen (operations_of es)))

    of_fragments : map name_of_fragment (fragments_of ds) ≡ map name_of_fragment (fragments_of es)
    of_fragments = seen_alike name_of_fragment fragment_data (λ (f : FragmentData). f.name) (λ f. refl) (fragments_of ds) (fragments_of es) (same_fragments ds es trees)

abbrev offset_seen : Option ℕ → ℕ
offset_seen None = 0
offset_seen (Some at) = at

abbrev anonymous_seen : Seen → Option ℕ
anonymous_seen seen = fault_where (not (is_some (name_seen seen))) (offset_seen seen.1)

anonymous_by_seen : (o : Operation) → anonymous_at o ≡ anonymous_seen (seen_of o)
anonymous_by_seen o = ap (λ b. fault_where (not b) o.at) (of_name o.name)
  where
    of_name : (name : Option Name) → is_some name ≡ is_some (maybe_identifier name)
    of_name None = refl
    of_name (Some name) = refl

pub same_lone_anonymous : (ds es : List Definition) → map seen_in ds ≡ map seen_in es → lone_anonymous ds ≡ lone_anonymous es
same_lone_anonymous ds es seen = ap₂ (λ n first. if nat_lt 1 n then first else None) same_length (first_alike anonymous_at (operations_of ds) (operations_of es) (seen_alike anonymous_at seen_of anonymous_seen anonymous_by_seen (operations_of ds) (operations_of es) same))
  where
    same : map seen_of (operations_of ds) ≡ map seen_of (operations_of es)
    same = same_operations ds es seen

    same_length : length (operations_of ds) ≡ length (operations_of es)
    same_length = sym (length-map (operations_of ds) seen_of) ∙ (ap length same ∙ length-map (operations_of es) seen_of)

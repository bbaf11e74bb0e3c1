-- Reading definitions gives what is written as them.
use Rattle.std.proofs.Common.{ℕ, ◌+◌, ◌≡◌, ◌≤◌, Bool, true, false, List, [], Option, Some, refl, arith}
use Rattle.std.specs.Prelude.{◌||◌, codes}
use Rattle.gql_base.specs.declared.lexical.token.TokenKind.TheVariants.{Amp, Colon, Equals, At, OpenBrace, CloseBrace, Pipe}
use Rattle.gql_base.specs.declared.parts.trees.OperationKind.{OperationKind}
use Rattle.gql_base.specs.ways.Symbols.{Symbol, punctuator, identifier, integer, decimal, string}
use Rattle.gql_base.specs.ways.Reading.{Test, takes, second, exact, keyword, up_to, never}
use Rattle.gql_base.specs.ways.Grammar.{Optional, Repeated, Choice}
use Rattle.gql_base.specs.parts.TypeReferences.{there}
use Rattle.gql_base.specs.parts.OperationKinds.{kind_word}
use Rattle.gql_base.proofs.WayLaws.ReadingLaws.{Law, Heads, image_law, choice_law, after, wider_law}
use Rattle.gql_base.proofs.WayLaws.RepeatingLaws.{repeated_law, optional_law, passes_repeated}
use Rattle.gql_base.proofs.WayLaws.LevelLaws.{Family}
use Rattle.gql_base.proofs.WayLaws.SymbolTests.{mark_law, heads_mark, heads_pair, heads_image, heads_choice, passes_heads, passes_optional, passes_pair, then_law}
use Rattle.std.proofs.lemmas.Bool.{or_parts}
use Rattle.gql_base.proofs.WayLaws.WordLaws.{heads_word, takes_word, word_law, heads_optional, between_law}
use Rattle.gql_base.proofs.PartLaws.ArgumentLaws.{goes_directives, heads_directive, directives_law, kind_law, heads_kind}
use Rattle.schema_reader.specs.Schemas.{root_of, IsRoot, schema_of, IsSchemaDefinition, IsTypeHead, scalar_of, IsScalar, AreInterfaces, IsFieldedType, object_type_of, IsObject, interface_of, IsInterface, AreMembers, union_of, IsUnion, enum_of, IsEnum, input_object_of, IsInputObject, IsTypeDefinition, IsRepeatable, AreLocations, directive_of, IsDirectiveDefinition, IsDefinition}
use Rattle.schema_reader.specs.SchemaReading.{root_at, schema_definition_at, type_head_at, scalar_at, maybe_interfaces_at, fielded_type_at, maybe_members_at, union_at, enum_at, input_object_at, type_definition_at, repeatable_at, locations_at, directive_definition_at, body_at, definition_at, begins_definition, definitions_at}
use Rattle.schema_reader.proofs.FieldLaws.{plain_name_law, SaysOfStrings, description_law, heads_described, names_law, heads_between, maybe_between_law, heads_input, input_law, maybe_arguments_law, heads_field, field_law, heads_enum_value, enum_value_law}

-- with what definitions may go on

abbrev goes_interfaces : Test
goes_interfaces w = takes (exact Amp) w || takes (keyword (codes "implements")) w

abbrev goes_members : Test
goes_members w = takes (exact Pipe) w || takes (exact Equals) w

abbrev pub goes_definition : Test
goes_definition w = goes_interfaces w || (goes_members w || (takes (exact OpenBrace) w || goes_directives w))

goes_parts : (w : Option Symbol) → goes_definition w ≡ false → (goes_interfaces w ≡ false) × (goes_members w ≡ false) × (takes (exact OpenBrace) w ≡ false) × (goes_directives w ≡ false)
goes_parts w h =
    let a = or_parts (goes_interfaces w) (goes_members w || (takes (exact OpenBrace) w || goes_directives w)) h in
    let b = or_parts (goes_members w) (takes (exact OpenBrace) w || goes_directives w) a.1 in
    let c = or_parts (takes (exact OpenBrace) w) (goes_directives w) b.1 in
    (a.0, b.0, c.0, c.1)

-- what a test says of this word
abbrev pub SaysOfWord : Bool → Test → List ℕ → Type 0
SaysOfWord b test word = (at : ℕ) → test (Some (identifier word at)) ≡ b

-- the schema

kind_begins : (w : Symbol) (k : OperationKind) → kind_word w ≡ Some k → up_to CloseBrace (Some w) ≡ true
kind_begins (identifier bytes at) k e = refl
kind_begins (punctuator kind) k e = cc
kind_begins (integer v) k e = cc
kind_begins (decimal bytes) k e = cc
kind_begins (string v) k e = cc

pub root_begins : (d : ℕ) → Heads true (up_to CloseBrace) (IsRoot d)
root_begins d = heads_image (heads_pair _ (heads_kind kind_begins))

pub root_law : {d n : ℕ} → d ≤ n → Law (IsRoot d) n never root_at root_at
root_law le = image_law root_of (after (kind_law le) (after (mark_law Colon le) (plain_name_law le)))

schema_definition_law : (left more d n : ℕ) → left ≤ more → n ≡ d + left → Law (IsSchemaDefinition d) n never (schema_definition_at left) (schema_definition_at more)
schema_definition_law left more d n le e = let inner : d ≤ n = omega (arith, e) in
    image_law schema_of (after (word_law (codes "schema") inner) (then_law (directives_law true left more d n le e)
    (between_law OpenBrace CloseBrace tt inner (root_law inner) (root_begins d) (record { says = λ a f rest is. refl }) refl)
    (passes_heads (heads_between OpenBrace CloseBrace tt refl))))

-- types

type_head_law : (word : List ℕ) (left more d n : ℕ) → left ≤ more → n ≡ d + left → Law (IsTypeHead word d) n goes_directives (type_head_at word left) (type_head_at word more)
type_head_law word left more d n le e = let inner : d ≤ n = omega (arith, e) in
    image_law second (after (word_law word inner) (after (plain_name_law inner) (directives_law true left more d n le e)))

scalar_law : (left more d n : ℕ) → left ≤ more → n ≡ d + left → Law (IsScalar d) n goes_definition (scalar_at left) (scalar_at more)
scalar_law left more d n le e = image_law scalar_of (wider_law (λ w h. (goes_parts w h).3) (type_head_law (codes "scalar") left more d n le e))

maybe_interfaces_law : {d n : ℕ} → d ≤ n → Law (Optional [] (AreInterfaces d)) n goes_interfaces maybe_interfaces_at maybe_interfaces_at
maybe_interfaces_law le = optional_law (takes (keyword (codes "implements"))) [] (image_law second (after (word_law (codes "implements") le) (names_law Amp (λ b at. refl) le))) (heads_image (heads_pair _ (takes_word (codes "implements"))))
    (λ w h. or_parts (takes (exact Amp) w) (takes (keyword (codes "implements")) w) h)

fielded_type_law : (word : List ℕ) (left more d n : ℕ) → left ≤ more → n ≡ d + left → Law (IsFieldedType word d) n goes_definition (fielded_type_at word left) (fielded_type_at word more)
fielded_type_law word left more d n le e = let inner : d ≤ n = omega (arith, e) in
    image_law second (after (word_law word inner) (after (plain_name_law inner)
    (then_law (maybe_interfaces_law inner)
    (then_law (directives_law true left more d n le e)
    (wider_law (λ w h. (goes_parts w h).2) (maybe_between_law OpenBrace CloseBrace tt tt inner (field_law left more d n le e) (heads_field d (λ v. refl) (λ b at. refl)) (heads_field d (λ v. refl) (λ b at. refl)) refl))
    (passes_optional (heads_between OpenBrace CloseBrace tt refl) (λ w h. (goes_parts w h).3)))
    (passes_pair (passes_repeated (heads_directive true d refl) (λ w h. h)) (passes_optional (heads_between OpenBrace CloseBrace tt refl) (λ w h. (goes_parts w h).0))))))

heads_members : {b : Bool} {test : Test} (d : ℕ) → test (Some (punctuator Equals)) ≡ b → Heads b test (AreMembers d)
heads_members d e = heads_image (heads_pair _ (heads_mark Equals tt e))

maybe_members_law : {d n : ℕ} → d ≤ n → Law (Optional [] (AreMembers d)) n goes_members maybe_members_at maybe_members_at
maybe_members_law {d = d} le = optional_law (takes (exact Equals)) [] (image_law second (after (mark_law Equals le) (names_law Pipe (λ b at. refl) le))) (heads_members d refl) (λ w h. or_parts (takes (exact Pipe) w) (takes (exact Equals) w) h)

union_law : (left more d n : ℕ) → left ≤ more → n ≡ d + left → Law (IsUnion d) n goes_definition (union_at left) (union_at more)
union_law left more d n le e = image_law union_of (then_law (type_head_law (codes "union") left more d n le e) (wider_law (λ w h. (goes_parts w h).1) (maybe_members_law (omega (arith, e)))) (passes_optional (heads_members d refl) (λ w h. (goes_parts w h).3)))

enum_law : (left more d n : ℕ) → left ≤ more → n ≡ d + left → Law (IsEnum d) n goes_definition (enum_at left) (enum_at more)
enum_law left more d n le e = image_law enum_of (then_law (type_head_law (codes "enum") left more d n le e)
    (wider_law (λ w h. (goes_parts w h).2) (maybe_between_law OpenBrace CloseBrace tt tt (omega (arith, e)) (enum_value_law left more d n le e) (heads_enum_value d (λ v. refl) (λ b at. refl)) (heads_enum_value d (λ v. refl) (λ b at. refl)) refl))
    (passes_optional (heads_between OpenBrace CloseBrace tt refl) (λ w h. (goes_parts w h).3)))

input_object_law : (left more d n : ℕ) → left ≤ more → n ≡ d + left → Law (IsInputObject d) n goes_definition (input_object_at left) (input_object_at more)
input_object_law left more d n le e = image_law input_object_of (then_law (type_head_law (codes "input") left more d n le e)
    (wider_law (λ w h. (goes_parts w h).2) (maybe_between_law OpenBrace CloseBrace tt tt (omega (arith, e)) (input_law left more d n le e) (heads_input d (λ v. refl) (λ b at. refl)) (heads_input d (λ v. refl) (λ b at. refl)) refl))
    (passes_optional (heads_between OpenBrace CloseBrace tt refl) (λ w h. (goes_parts w h).3)))

-- directives

repeatable_law : {d n : ℕ} → d ≤ n → Law (IsRepeatable d) n (takes (keyword (codes "repeatable"))) repeatable_at repeatable_at
repeatable_law le = optional_law (takes (keyword (codes "repeatable"))) false (image_law there (word_law (codes "repeatable") le)) (heads_image (takes_word (codes "repeatable"))) (λ w h. (refl, h))

heads_locations : {b : Bool} {test : Test} (d : ℕ) → SaysOfWord b test (codes "on") → Heads b test (AreLocations d)
heads_locations d says = heads_image (heads_pair _ (heads_word (codes "on") says))

locations_law : {d n : ℕ} → d ≤ n → Law (AreLocations d) n (takes (exact Pipe)) locations_at locations_at
locations_law le = image_law second (after (word_law (codes "on") le) (names_law Pipe (λ b at. refl) le))

directive_definition_law : (left more d n : ℕ) → left ≤ more → n ≡ d + left → Law (IsDirectiveDefinition d) n goes_definition (directive_definition_at left) (directive_definition_at more)
directive_definition_law left more d n le e = let inner : d ≤ n = omega (arith, e) in
    image_law directive_of (after (word_law (codes "directive") inner) (after (mark_law At inner) (after (plain_name_law inner)
    (then_law (maybe_arguments_law left more d n le e)
    (then_law (repeatable_law inner) (wider_law (λ w h. (or_parts (takes (exact Pipe) w) (takes (exact Equals) w) (goes_parts w h).1).0) (locations_law inner)) (passes_heads (heads_locations d (λ at. refl))))
    (passes_heads (heads_optional (heads_image (heads_word (codes "repeatable") (λ at. refl))) (heads_locations d (λ at. refl))))))))

-- what words a test is asked of

heads_head : {b : Bool} {test : Test} (word : List ℕ) (d : ℕ) → SaysOfWord b test word → Heads b test (IsTypeHead word d)
heads_head word d says = heads_image (heads_pair _ (heads_word word says))

heads_fielded : {b : Bool} {test : Test} (word : List ℕ) (d : ℕ) → SaysOfWord b test word → Heads b test (IsFieldedType word d)
heads_fielded word d says = heads_image (heads_pair _ (heads_word word says))

heads_input_object : {b : Bool} {test : Test} (d : ℕ) → SaysOfWord b test (codes "input") → Heads b test (IsInputObject d)
heads_input_object d i = heads_image (heads_pair _ (heads_head (codes "input") d i))

heads_from_enum : {b : Bool} {test : Test} (d : ℕ) → SaysOfWord b test (codes "enum") → SaysOfWord b test (codes "input") → Heads b test (Choice (IsEnum d) (IsInputObject d))
heads_from_enum d e i = heads_choice (heads_image (heads_pair _ (heads_head (codes "enum") d e))) (heads_input_object d i)

heads_from_union : {b : Bool} {test : Test} (d : ℕ) → SaysOfWord b test (codes "union") → SaysOfWord b test (codes "enum") → SaysOfWord b test (codes "input") → Heads b test (Choice (IsUnion d) (Choice (IsEnum d) (IsInputObject d)))
heads_from_union d u e i = heads_choice (heads_image (heads_pair _ (heads_head (codes "union") d u))) (heads_from_enum d e i)

heads_from_interface : {b : Bool} {test : Test} (d : ℕ) → SaysOfWord b test (codes "interface") → SaysOfWord b test (codes "union") → SaysOfWord b test (codes "enum") → SaysOfWord b test (codes "input") → Heads b test (Choice (IsInterface d) (Choice (IsUnion d) (Choice (IsEnum d) (IsInputObject d))))
heads_from_interface d f u e i = heads_choice (heads_image (heads_fielded (codes "interface") d f)) (heads_from_union d u e i)

heads_from_object : {b : Bool} {test : Test} (d : ℕ) → SaysOfWord b test (codes "type") → SaysOfWord b test (codes "interface") → SaysOfWord b test (codes "union") → SaysOfWord b test (codes "enum") → SaysOfWord b test (codes "input")
    → Heads b test (Choice (IsObject d) (Choice (IsInterface d) (Choice (IsUnion d) (Choice (IsEnum d) (IsInputObject d)))))
heads_from_object d o f u e i = heads_choice (heads_image (heads_fielded (codes "type") d o)) (heads_from_interface d f u e i)

-- what the test says of each word for a kind of type
pub record SaysOfTypes (b : Bool) (test : Test) : Type 0 where
  pub scalar : SaysOfWord b test (codes "scalar")
  pub object : SaysOfWord b test (codes "type")
  pub interface : SaysOfWord b test (codes "interface")
  pub union : SaysOfWord b test (codes "union")
  pub enum : SaysOfWord b test (codes "enum")
  pub input : SaysOfWord b test (codes "input")

heads_type : {b : Bool} {test : Test} (d : ℕ) → SaysOfTypes b test → Heads b test (IsTypeDefinition d)
heads_type d s = heads_choice (heads_image (heads_head (codes "scalar") d s.scalar)) (heads_from_object d s.object s.interface s.union s.enum s.input)

-- definitions

type_definition_law : (left more d n : ℕ) → left ≤ more → n ≡ d + left → Law (IsTypeDefinition d) n goes_definition (type_definition_at left) (type_definition_at more)
unfolding type_definition_at
type_definition_law left more d n le e =
    choice_law (takes (keyword (codes "scalar"))) (scalar_law left more d n le e)
    (choice_law (takes (keyword (codes "type"))) (image_law object_type_of (fielded_type_law (codes "type") left more d n le e))
    (choice_law (takes (keyword (codes "interface"))) (image_law interface_of (fielded_type_law (codes "interface") left more d n le e))
    (choice_law (takes (keyword (codes "union"))) (union_law left more d n le e)
    (choice_law (takes (keyword (codes "enum"))) (enum_law left more d n le e) (input_object_law left more d n le e)
    (λ w h. (h, h)) (heads_image (heads_pair _ (heads_head (codes "enum") d (λ at. refl)))) (passes_heads (heads_input_object d (λ at. refl))))
    (λ w h. (h, h)) (heads_image (heads_pair _ (heads_head (codes "union") d (λ at. refl)))) (passes_heads (heads_from_enum d (λ at. refl) (λ at. refl))))
    (λ w h. (h, h)) (heads_image (heads_fielded (codes "interface") d (λ at. refl))) (passes_heads (heads_from_union d (λ at. refl) (λ at. refl) (λ at. refl))))
    (λ w h. (h, h)) (heads_image (heads_fielded (codes "type") d (λ at. refl))) (passes_heads (heads_from_interface d (λ at. refl) (λ at. refl) (λ at. refl) (λ at. refl))))
    (λ w h. (h, h)) (heads_image (heads_head (codes "scalar") d (λ at. refl))) (passes_heads (heads_from_object d (λ at. refl) (λ at. refl) (λ at. refl) (λ at. refl) (λ at. refl)))

heads_schema : {b : Bool} {test : Test} (d : ℕ) → SaysOfWord b test (codes "schema") → Heads b test (IsSchemaDefinition d)
heads_schema d says = heads_image (heads_pair _ (heads_word (codes "schema") says))

heads_directive_definition : {b : Bool} {test : Test} (d : ℕ) → SaysOfWord b test (codes "directive") → Heads b test (IsDirectiveDefinition d)
heads_directive_definition d says = heads_image (heads_pair _ (heads_word (codes "directive") says))

heads_body : {b : Bool} {test : Test} (d : ℕ) → SaysOfWord b test (codes "schema") → SaysOfWord b test (codes "directive") → SaysOfTypes b test → Heads b test (Choice (IsSchemaDefinition d) (Choice (IsDirectiveDefinition d) (IsTypeDefinition d)))
heads_body d s i types = heads_choice (heads_schema d s) (heads_choice (heads_directive_definition d i) (heads_type d types))

body_law : (left more d n : ℕ) → left ≤ more → n ≡ d + left → Law (Choice (IsSchemaDefinition d) (Choice (IsDirectiveDefinition d) (IsTypeDefinition d))) n goes_definition (body_at left) (body_at more)
unfolding body_at
body_law left more d n le e =
    choice_law (takes (keyword (codes "schema"))) (schema_definition_law left more d n le e)
    (choice_law (takes (keyword (codes "directive"))) (directive_definition_law left more d n le e) (type_definition_law left more d n le e)
    (λ w h. (h, h)) (heads_directive_definition d (λ at. refl)) (passes_heads (heads_type d (record { scalar = λ at. refl; object = λ at. refl; interface = λ at. refl; union = λ at. refl; enum = λ at. refl; input = λ at. refl }))))
    (λ w h. (refl, h)) (heads_schema d (λ at. refl))
    (passes_heads (heads_choice (heads_directive_definition d (λ at. refl)) (heads_type d (record { scalar = λ at. refl; object = λ at. refl; interface = λ at. refl; union = λ at. refl; enum = λ at. refl; input = λ at. refl }))))

-- what the test says of all that definitions begin with
pub record SaysOfDefinitions (b : Bool) (test : Test) : Type 0 where
  pub strings : SaysOfStrings b test
  pub schema : SaysOfWord b test (codes "schema")
  pub directive : SaysOfWord b test (codes "directive")
  pub types : SaysOfTypes b test

pub heads_definition : {b : Bool} {test : Test} (d : ℕ) → SaysOfDefinitions b test → Heads b test (IsDefinition d)
unfolding IsDefinition
heads_definition d s = heads_described s.strings (heads_body d s.schema s.directive s.types)

pub definition_law : (left more d n : ℕ) → left ≤ more → n ≡ d + left → Law (IsDefinition d) n goes_definition (definition_at left) (definition_at more)
unfolding IsDefinition definition_at
definition_law left more d n le e = then_law (description_law (omega (arith, e))) (body_law left more d n le e)
    (passes_heads (heads_body d (λ at. refl) (λ at. refl) (record { scalar = λ at. refl; object = λ at. refl; interface = λ at. refl; union = λ at. refl; enum = λ at. refl; input = λ at. refl })))

pub definition_begins : SaysOfDefinitions true begins_definition
definition_begins = record { strings = λ v. refl; schema = λ at. refl; directive = λ at. refl; types = record { scalar = λ at. refl; object = λ at. refl; interface = λ at. refl; union = λ at. refl; enum = λ at. refl; input = λ at. refl } }

ends_definition : SaysOfDefinitions false goes_definition
ends_definition = record { strings = λ v. refl; schema = λ at. refl; directive = λ at. refl; types = record { scalar = λ at. refl; object = λ at. refl; interface = λ at. refl; union = λ at. refl; enum = λ at. refl; input = λ at. refl } }

abbrev pub goes_definitions : Test
goes_definitions w = goes_definition w || begins_definition w

definitions_law : (n more : ℕ) → n ≤ more → Law (Repeated (IsDefinition 0)) n goes_definitions (definitions_at n) (definitions_at more)
unfolding definitions_at
definitions_law n more le = repeated_law begins_definition (definition_law n more 0 n le (omega arith)) (heads_definition 0 definition_begins) refl (heads_definition 0 ends_definition) (λ w h. or_parts (goes_definition w) (begins_definition w) h)

pub definitions_family : Family (Repeated (IsDefinition 0)) goes_definitions definitions_at
definitions_family = record { law = definitions_law; at_end = refl }

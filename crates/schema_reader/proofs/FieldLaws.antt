-- Reading names, arguments, fields and enum values gives what is written as them.
use Rattle.std.proofs.Common.{ℕ, ◌+◌, ◌≡◌, ◌≤◌, Bool, true, false, List, [], None, Some, refl, ap, ◌∙◌, arith}
use Rattle.std.specs.Prelude.{◌||◌}
use Rattle.gql_base.specs.declared.lexical.token.TokenKind.{TokenKind}
use Rattle.gql_base.specs.declared.lexical.token.TokenKind.TheVariants.{Bang, Colon, Equals, OpenParen, CloseParen}
use Rattle.gql_base.specs.ways.Symbols.{Symbol, punctuator, identifier, integer, decimal, string}
use Rattle.gql_base.specs.ways.Reading.{Reader, Test, takes, optional, second, listed, exact, any_string, up_to, never}
use Rattle.gql_base.specs.ways.Grammar.{Nested, Single, Pair, Optional}
use Rattle.gql_base.proofs.WayLaws.ReadingLaws.{Law, Heads, image_law, single_law, after, wider_law}
use Rattle.gql_base.proofs.WayLaws.RepeatingLaws.{repeated_law, optional_law, passes_repeated}
use Rattle.gql_base.proofs.WayLaws.SymbolTests.{IsPunctuator, SaysOfNames, mark_law, name_law, heads_single, heads_mark, heads_name, heads_pair, heads_image, passes_heads, passes_optional, passes_pair, then_law}
use Rattle.gql_base.proofs.WayLaws.WordLaws.{left_false, right_false, heads_string, string_law, takes_mark, heads_optional, between_law}
use Rattle.gql_base.proofs.PartLaws.ArgumentLaws.{goes_directives, heads_directive, directives_law, goes_default, goes_variable, heads_default, default_law}
use Rattle.gql_base.proofs.PartLaws.TypeLaws.{type_law}
use Rattle.schema_reader.specs.Schemas.{NameText, name_of, IsName, IsDescription, IsOtherName, AreNames, Between, input_of, IsInput, AreArgumentDefinitions, field_of, IsField, unless, enum_name, IsEnumValue}
use Rattle.schema_reader.specs.SchemaReading.{name_at, description_at, other_name_at, names_at, between, input_at, maybe_arguments_at, field_definition_at, enum_value_at}

-- names and descriptions

pub plain_name_law : {d n : ℕ} → d ≤ n → Law (IsName d) n never name_at name_at
plain_name_law le = image_law name_of (name_law le)

pub heads_plain_name : {b : Bool} {test : Test} {d : ℕ} → SaysOfNames b test → Heads b test (IsName d)
heads_plain_name says = heads_image (heads_name says)

-- what the test says of each string
abbrev pub SaysOfStrings : Bool → Test → Type 0
SaysOfStrings b test = (v : List ℕ) → test (Some (string v)) ≡ b

pub description_law : {d n : ℕ} → d ≤ n → Law (IsDescription d) n (takes any_string) description_at description_at
description_law le = optional_law (takes any_string) None (image_law Some (string_law le)) (heads_image (heads_string (λ v. refl))) (λ w h. (refl, h))

-- what the test says of a thing that may have a description
pub heads_described : {A : Type 0} {b : Bool} {test : Test} {d : ℕ} {T : A → Nested → Type 0} → SaysOfStrings b test → Heads b test T → Heads b test (Pair (IsDescription d) T)
heads_described strings h = heads_optional (heads_image (heads_string strings)) h

-- lists of names

pub heads_other_name : {b : Bool} {test : Test} {d : ℕ} (mark : TokenKind) → Heads b test (Single (exact mark) d) → Heads b test (IsOtherName mark d)
heads_other_name mark h = heads_image (heads_pair _ h)

pub other_name_law : {d n : ℕ} (mark : TokenKind) → d ≤ n → Law (IsOtherName mark d) n never (other_name_at mark) (other_name_at mark)
other_name_law mark le = image_law second (after (mark_law mark le) (plain_name_law le))

pub names_law : {d n : ℕ} (mark : TokenKind) → SaysOfNames false (takes (exact mark)) → d ≤ n → Law (AreNames mark d) n (takes (exact mark)) (names_at mark) (names_at mark)
names_law mark apart le = image_law second (then_law (optional_law (takes (exact mark)) tt (mark_law mark le) (takes_mark mark) (λ w h. (refl, h)))
    (image_law listed (after (plain_name_law le) (repeated_law (takes (exact mark)) (other_name_law mark le) (heads_other_name mark (takes_mark mark)) refl (record { says = λ a f rest is. refl }) (λ w h. (refl, h)))))
    (passes_heads (heads_image (heads_pair _ (heads_plain_name apart)))))

-- things between two punctuators

pub heads_between : {A : Type 0} {b : Bool} {test : Test} {S : A → Nested → Type 0} {d : ℕ} (open_kind close_kind : TokenKind) → IsPunctuator open_kind → test (Some (punctuator open_kind)) ≡ b → Heads b test (Between open_kind close_kind d S)
heads_between o c is e = heads_image (heads_pair _ (heads_mark o is e))

pub maybe_between_law : {A : Type 0} {S : A → Nested → Type 0} {n d : ℕ} {first : Test} {r more : Reader A} (open_kind close_kind : TokenKind) → IsPunctuator open_kind → IsPunctuator close_kind → d ≤ n → Law S n first r more → Heads true (up_to close_kind) S → Heads false first S
    → (first (Some (punctuator close_kind)) || up_to close_kind (Some (punctuator close_kind))) ≡ false
    → Law (Optional [] (Between open_kind close_kind d S)) n (takes (exact open_kind)) (optional (takes (exact open_kind)) [] (between open_kind close_kind r)) (optional (takes (exact open_kind)) [] (between open_kind close_kind more))
maybe_between_law o c io ic le l heads apart close = optional_law (takes (exact o)) [] (between_law o c ic le l heads apart close) (heads_image (heads_pair _ (takes_mark o))) (λ w h. (refl, h))

-- arguments and input fields

pub heads_input : {b : Bool} {test : Test} (d : ℕ) → SaysOfStrings b test → SaysOfNames b test → Heads b test (IsInput d)
heads_input d strings names = heads_image (heads_described strings (heads_pair _ (heads_plain_name names)))

pub input_law : (left more d n : ℕ) → left ≤ more → n ≡ d + left → Law (IsInput d) n goes_variable (input_at left) (input_at more)
input_law left more d n le e = let inner : d ≤ n = omega (arith, e) in
    image_law input_of (then_law (description_law inner) (after (plain_name_law inner) (after (mark_law Colon inner)
    (then_law (type_law left more d n le e)
    (then_law (default_law left more d n le e)
    (wider_law (λ w h. right_false (takes (exact Equals) w) (goes_directives w) (right_false (takes (exact Bang) w) (goes_default w) h)) (directives_law true left more d n le e))
    (passes_repeated (heads_directive true d refl) (λ w h. left_false (takes (exact Equals) w) (goes_directives w) (right_false (takes (exact Bang) w) (goes_default w) h))))
    (passes_pair (passes_optional (heads_default d refl) (λ w h. h)) (passes_repeated (heads_directive true d refl) (λ w h. left_false (takes (exact Bang) w) (goes_default w) h))))))
    (passes_heads (heads_pair _ (heads_plain_name (λ b at. refl)))))

pub maybe_arguments_law : (left more d n : ℕ) → left ≤ more → n ≡ d + left → Law (Optional [] (AreArgumentDefinitions d)) n (takes (exact OpenParen)) (maybe_arguments_at left) (maybe_arguments_at more)
maybe_arguments_law left more d n le e = maybe_between_law OpenParen CloseParen tt tt (omega (arith, e)) (input_law left more d n le e) (heads_input d (λ v. refl) (λ b at. refl)) (heads_input d (λ v. refl) (λ b at. refl)) refl

-- fields

abbrev pub goes_field : Test
goes_field w = takes (exact Bang) w || goes_directives w

pub heads_field : {b : Bool} {test : Test} (d : ℕ) → SaysOfStrings b test → SaysOfNames b test → Heads b test (IsField d)
heads_field d strings names = heads_image (heads_described strings (heads_pair _ (heads_plain_name names)))

pub field_law : (left more d n : ℕ) → left ≤ more → n ≡ d + left → Law (IsField d) n goes_field (field_definition_at left) (field_definition_at more)
field_law left more d n le e = let inner : d ≤ n = omega (arith, e) in
    image_law field_of (then_law (description_law inner) (after (plain_name_law inner)
    (then_law (maybe_arguments_law left more d n le e)
    (after (mark_law Colon inner)
    (then_law (type_law left more d n le e) (wider_law (λ w h. right_false (takes (exact Bang) w) (goes_directives w) h) (directives_law true left more d n le e))
    (passes_repeated (heads_directive true d refl) (λ w h. left_false (takes (exact Bang) w) (goes_directives w) h))))
    (passes_heads (heads_pair _ (heads_mark Colon tt refl)))))
    (passes_heads (heads_pair _ (heads_plain_name (λ b at. refl)))))

-- enum values

unless_is : (b : Bool) (bytes name : List ℕ) → unless b bytes ≡ Some name → bytes ≡ name
unless_is true bytes name e = cc
unless_is false bytes name e = cc

pub enum_name_is : (w : Symbol) (name : NameText) → enum_name w ≡ Some name → (at : ℕ) × (w ≡ identifier name at)
enum_name_is (identifier bytes at) name e = (at, ap (λ b. identifier b at) (unless_is _ bytes name e))
enum_name_is (punctuator kind) name e = cc
enum_name_is (integer v) name e = cc
enum_name_is (decimal bytes) name e = cc
enum_name_is (string v) name e = cc

heads_enum_name : {b : Bool} {test : Test} {d : ℕ} → SaysOfNames b test → Heads b test (Single enum_name d)
heads_enum_name {b = b} {test = test} {d = d} says = heads_single b test enum_name d (λ w name h. let i = enum_name_is w name h in ap (λ w. test (Some w)) i.1 ∙ says name i.0)

pub heads_enum_value : {b : Bool} {test : Test} (d : ℕ) → SaysOfStrings b test → SaysOfNames b test → Heads b test (IsEnumValue d)
heads_enum_value d strings names = heads_described strings (heads_pair _ (heads_enum_name names))

pub enum_value_law : (left more d n : ℕ) → left ≤ more → n ≡ d + left → Law (IsEnumValue d) n goes_directives (enum_value_at left) (enum_value_at more)
enum_value_law left more d n le e = let inner : d ≤ n = omega (arith, e) in
    then_law (description_law inner) (after (single_law enum_name [] (identifier [] 0) refl inner) (directives_law true left more d n le e)) (passes_heads (heads_pair _ (heads_enum_name (λ b at. refl))))

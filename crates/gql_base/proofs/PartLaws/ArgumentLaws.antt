-- Reading arguments, directives, defaults and kinds of operations gives what is written as them.
use Rattle.std.proofs.Common.{ℕ, ◌+◌, ◌≡◌, ◌≤◌, Bool, true, [], None, Some, refl, arith}
use Rattle.std.specs.Prelude.{◌||◌, codes}
use Rattle.gql_base.specs.declared.lexical.token.TokenKind.TheVariants.{Bang, Equals, At, OpenParen, CloseParen}
use Rattle.gql_base.specs.declared.parts.trees.OperationKind.{OperationKind}
use Rattle.gql_base.specs.declared.parts.trees.OperationKind.TheVariants.{Query}
use Rattle.gql_base.specs.ways.Symbols.{Symbol, punctuator, identifier}
use Rattle.gql_base.specs.ways.Reading.{Test, takes, single, second, some_second, exact, up_to, never}
use Rattle.gql_base.specs.ways.Grammar.{Single, Optional}
use Rattle.gql_base.specs.parts.Values.{named_value_at, value_at}
use Rattle.gql_base.specs.parts.Arguments.{AreArguments, IsDirective, AreDirectives, IsDefault, arguments_at, maybe_arguments_at, directive_at, directives_at, maybe_default_at}
use Rattle.gql_base.specs.parts.OperationKinds.{kind_word}
use Rattle.gql_base.proofs.WayLaws.ReadingLaws.{Law, Heads, image_law, single_law, after}
use Rattle.gql_base.proofs.WayLaws.RepeatingLaws.{Repeats, repeats, repeated_law, optional_law}
use Rattle.gql_base.proofs.WayLaws.SymbolTests.{mark_law, name_law, heads_single, heads_mark, heads_pair, heads_image}
use Rattle.gql_base.proofs.WayLaws.WordLaws.{parens_law}
use Rattle.gql_base.proofs.PartLaws.ValueLaws.{value_law, field_law, field_begins}
use Rattle.std.proofs.lemmas.Bool.{or_parts}

-- with what things may go on

abbrev pub goes_directives : Test
goes_directives w = takes (exact OpenParen) w || takes (exact At) w

abbrev pub goes_default : Test
goes_default w = takes (exact Equals) w || goes_directives w

-- a type, a default and directives
abbrev pub goes_variable : Test
goes_variable w = takes (exact Bang) w || goes_default w

-- arguments and directives

pub heads_arguments : {b : Bool} {test : Test} (c : Bool) (d : ℕ) → test (Some (punctuator OpenParen)) ≡ b → Heads b test (AreArguments c d)
heads_arguments c d e = heads_image (heads_pair _ (heads_mark OpenParen tt e))

pub arguments_law : (c : Bool) (left more d n : ℕ) → left ≤ more → n ≡ d + left → Law (AreArguments c d) n never (arguments_at c left) (arguments_at c more)
arguments_law c left more d n le e = let inner : d ≤ n = omega (arith, e) in
    parens_law inner (field_law c d inner (value_law c left more d n le e)) (field_begins c d (λ b at. refl)) (record { says = λ a f rest is. refl }) refl

pub maybe_arguments_law : (c : Bool) (left more d n : ℕ) → left ≤ more → n ≡ d + left → Law (Optional [] (AreArguments c d)) n (takes (exact OpenParen)) (maybe_arguments_at c left) (maybe_arguments_at c more)
maybe_arguments_law c left more d n le e = optional_law (takes (exact OpenParen)) [] (arguments_law c left more d n le e) (heads_arguments c d refl) (λ w h. (refl, h))

pub heads_directive : {b : Bool} {test : Test} (c : Bool) (d : ℕ) → test (Some (punctuator At)) ≡ b → Heads b test (IsDirective c d)
heads_directive c d e = heads_image (heads_pair _ (heads_mark At tt e))

pub directive_law : (c : Bool) (left more d n : ℕ) → left ≤ more → n ≡ d + left → Law (IsDirective c d) n (takes (exact OpenParen)) (directive_at c left) (directive_at c more)
directive_law c left more d n le e = let inner : d ≤ n = omega (arith, e) in
    image_law second (after (mark_law At inner) (after (name_law inner) (maybe_arguments_law c left more d n le e)))

pub directives_law : (c : Bool) (left more d n : ℕ) → left ≤ more → n ≡ d + left → Law (AreDirectives c d) n goes_directives (directives_at c left) (directives_at c more)
directives_law c left more d n le e = repeated_law (takes (exact At)) (directive_law c left more d n le e) (heads_directive c d refl) refl (heads_directive c d refl) (λ w h. or_parts (takes (exact OpenParen) w) (takes (exact At) w) h)

-- defaults

pub heads_default : {b : Bool} {test : Test} (d : ℕ) → test (Some (punctuator Equals)) ≡ b → Heads b test (IsDefault d)
heads_default d e = heads_image (heads_pair _ (heads_mark Equals tt e))

pub default_law : (left more d n : ℕ) → left ≤ more → n ≡ d + left → Law (Optional None (IsDefault d)) n (takes (exact Equals)) (maybe_default_at left) (maybe_default_at more)
default_law left more d n le e = optional_law (takes (exact Equals)) None (image_law some_second (after (mark_law Equals (omega (arith, e))) (value_law true left more d n le e))) (heads_default d refl) (λ w h. (refl, h))

-- kinds of operations

pub kind_law : {d n : ℕ} → d ≤ n → Law (Single kind_word d) n never (single kind_word) (single kind_word)
kind_law le = single_law kind_word Query (identifier (codes "query") 0) refl le

-- what the test says of the kinds of operations, which are names
pub heads_kind : {b : Bool} {test : Test} {d : ℕ} → ((w : Symbol) (k : OperationKind) → kind_word w ≡ Some k → test (Some w) ≡ b) → Heads b test (Single kind_word d)
heads_kind {b = b} {test = test} {d = d} says = heads_single b test kind_word d says

-- what can be repeated

pub arguments_repeat : (c : Bool) (n : ℕ) → Repeats (up_to CloseParen) (named_value_at (value_at c n))
arguments_repeat c n = repeats (up_to CloseParen) (field_law c 0 (omega arith) (value_law c n n 0 n (omega arith) (omega arith))) (field_begins c 0 (λ b at. refl)) refl

pub directives_repeat : (c : Bool) (n : ℕ) → Repeats (takes (exact At)) (directive_at c n)
directives_repeat c n = repeats (takes (exact At)) (directive_law c n n 0 n (omega arith) (omega arith)) (heads_directive c 0 refl) refl

-- Arguments, directives and defaults (GraphQL October 2021, 2.6, 2.10 and 2.12): their trees, the symbols that they are
-- written with, and how they are read. Constants hold no variables.
use Rattle.std.specs.Prelude.{ℕ, Bool, true, List, [], Option, None}
use Rattle.gql_base.specs.declared.lexical.token.TokenKind.TheVariants.{Colon, Equals, At, OpenParen, CloseParen}
use Rattle.gql_base.specs.ways.Reading.{Reader, takes, single, pair, image, optional, repeated, one_or_more, second, inside, some_second, exact, Identifier, any_name, up_to}
use Rattle.gql_base.specs.ways.Grammar.{Nested, Single, Pair, Image, Optional, Repeated, OneOrMore}
use Rattle.gql_base.specs.parts.Values.{ValueTree, NamedValue, named_value_of, IsValue, named_value_at, value_at}

-- a directive by its name and its arguments
abbrev pub DirectiveTree : Type 0
DirectiveTree = Identifier × List NamedValue

-- the grammar, with the number of open levels

abbrev pub IsArgument : Bool → ℕ → NamedValue → Nested → Type 0
IsArgument constant d = Image named_value_of (Pair (Single any_name d) (Pair (Single (exact Colon) d) (IsValue constant d)))

abbrev pub AreArguments : Bool → ℕ → List NamedValue → Nested → Type 0
AreArguments constant d = Image inside (Pair (Single (exact OpenParen) d) (Pair (OneOrMore (IsArgument constant d)) (Single (exact CloseParen) d)))

abbrev pub IsDirective : Bool → ℕ → DirectiveTree → Nested → Type 0
IsDirective constant d = Image second (Pair (Single (exact At) d) (Pair (Single any_name d) (Optional [] (AreArguments constant d))))

abbrev pub AreDirectives : Bool → ℕ → List DirectiveTree → Nested → Type 0
AreDirectives constant d = Repeated (IsDirective constant d)

-- a default value
abbrev pub IsDefault : ℕ → Option ValueTree → Nested → Type 0
IsDefault d = Image some_second (Pair (Single (exact Equals) d) (IsValue true d))

-- reading, where so many levels may still be opened

abbrev pub arguments_at : Bool → ℕ → Reader (List NamedValue)
arguments_at constant left = image inside (pair (single (exact OpenParen)) (pair (one_or_more (up_to CloseParen) (named_value_at (value_at constant left))) (single (exact CloseParen))))

abbrev pub maybe_arguments_at : Bool → ℕ → Reader (List NamedValue)
maybe_arguments_at constant left = optional (takes (exact OpenParen)) [] (arguments_at constant left)

abbrev pub directive_at : Bool → ℕ → Reader DirectiveTree
directive_at constant left = image second (pair (single (exact At)) (pair (single any_name) (maybe_arguments_at constant left)))

abbrev pub directives_at : Bool → ℕ → Reader (List DirectiveTree)
directives_at constant left = repeated (takes (exact At)) (directive_at constant left)

abbrev pub default_at : ℕ → Reader (Option ValueTree)
default_at left = image some_second (pair (single (exact Equals)) (value_at true left))

abbrev pub maybe_default_at : ℕ → Reader (Option ValueTree)
maybe_default_at left = optional (takes (exact Equals)) None (default_at left)

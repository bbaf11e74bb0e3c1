-- The ways of reading from which the readers of all grammars are put together. A reader gives what it reads at
-- the front of symbols and the symbols after that, or why it stops and the symbols before which it stops.
use Rattle.std.specs.Prelude.{ℕ, zero, suc, ◌==◌, not, Bool, true, false, List, [], ◌∷◌, length, Option, None, Some, Result, Ok, Err, if◌then◌else◌}
use Rattle.std.specs.Str.{bytes_eq}
use Rattle.gql_base.specs.declared.lexical.token.TokenKind.{TokenKind}
use Rattle.gql_base.specs.ways.Symbols.{Symbol, punctuator, identifier, integer, decimal, string, Symbols, kind_of, kind_number}

-- Reading stops at a symbol that can't stand there, or at one that would open a level too many.
pub data Stop : Type 0 where
  unexpected : Stop
  too_deep : Stop

abbrev pub Reading : Type 0 → Type 0
Reading A = Result (A × Symbols) (Stop × Symbols)

abbrev pub Reader : Type 0 → Type 0
Reader A = Symbols → Reading A

-- a question about the next symbol, if there is one
abbrev pub Test : Type 0
Test = Option Symbol → Bool

-- what a symbol is taken for, if it is taken
abbrev pub Taking : Type 0 → Type 0
Taking A = Symbol → Option A

abbrev pub next : Symbols → Option Symbol
next [] = None
next (w ∷ ws) = Some w

abbrev pub is_some : {A : Type 0} → Option A → Bool
is_some None = false
is_some (Some a) = true

-- whether the next symbol is taken
abbrev pub takes : {A : Type 0} → Taking A → Test
takes taking None = false
takes taking (Some w) = is_some (taking w)

abbrev pub then_read : {A B : Type 0} → Reading A → (A × Symbols → Reading B) → Reading B
then_read (Ok x) f = f x
then_read (Err e) f = Err e

abbrev pub taken : {A : Type 0} → Option A → Symbols → Symbols → Reading A
taken None after all = Err (unexpected, all)
taken (Some a) after all = Ok (a, after)

-- one symbol
abbrev pub single : {A : Type 0} → Taking A → Reader A
single taking [] = Err (unexpected, [])
single taking (w ∷ ws) = taken (taking w) ws (w ∷ ws)

-- one thing and then another
abbrev pub pair : {A B : Type 0} → Reader A → Reader B → Reader (A × B)
pair r s ws = then_read (r ws) (λ x. then_read (s x.1) (λ y. Ok ((x.0, y.0), y.1)))

-- what a function makes of the thing read
abbrev pub image : {A B : Type 0} → (A → B) → Reader A → Reader B
image f r ws = then_read (r ws) (λ x. Ok (f x.0, x.1))

-- one of two things, by the next symbol
abbrev pub choice : {A : Type 0} → Test → Reader A → Reader A → Reader A
choice test r s ws = if test (next ws) then r ws else s ws

-- no symbol
abbrev pub empty : {A : Type 0} → A → Reader A
empty a ws = Ok (a, ws)

-- a thing, where the next symbol says that it is there
abbrev pub optional : {A : Type 0} → Test → A → Reader A → Reader A
optional test none r = choice test r (empty none)

abbrev pub listed : {A : Type 0} → A × List A → List A
listed p = p.0 ∷ p.1

abbrev pub repeat_step : {A : Type 0} → Test → Reader A → Reader (List A) → Reader (List A)
repeat_step test r others = choice test (image listed (pair r others)) (empty [])

unfoldable pub repeat_up_to : {A : Type 0} → ℕ → Test → Reader A → Reader (List A)
repeat_up_to zero test r ws = Ok ([], ws)
repeat_up_to (suc k) test r ws = repeat_step test r (repeat_up_to k test r) ws

-- things, as long as the next symbol says that one is there
unfoldable pub repeated : {A : Type 0} → Test → Reader A → Reader (List A)
repeated test r ws = repeat_up_to (length ws) test r ws

-- one thing, and then others in the same way
abbrev pub one_or_more : {A : Type 0} → Test → Reader A → Reader (List A)
one_or_more test r = image listed (pair r (repeated test r))

abbrev pub second : {A B : Type 0} → A × B → B
second p = p.1

-- the thing between two others
abbrev pub inside : {A : Type 0} → Unit {0} × (A × Unit {0}) → A
inside p = p.1.0

-- the thing after another, where one may be left out
abbrev pub some_second : {A : Type 0} → Unit {0} × A → Option A
some_second p = Some p.1

-- a symbol that opens a level, if one is left
abbrev pub opener : {A : Type 0} → Taking A → ℕ → Reader A
opener taking zero ws = Err (if takes taking (next ws) then too_deep else unexpected, ws)
opener taking (suc left) ws = single taking ws

-- a symbol that opens a level and what stands in it; no reader says that no level is left
unfoldable pub level : {A B : Type 0} → Taking A → Option (Reader B) → Reader B
level taking None ws = Err (if takes taking (next ws) then too_deep else unexpected, ws)
level taking (Some r) ws = image second (pair (single taking) r) ws

-- a test of one symbol

abbrev pub when : Bool → Option (Unit {0})
when true = Some tt
when false = None

-- a symbol of this kind
abbrev pub exact : TokenKind → Taking (Unit {0})
exact kind w = when (kind_number kind == kind_number (kind_of w))

-- a name, with its offset
abbrev pub Identifier : Type 0
Identifier = List ℕ × ℕ

abbrev pub any_name : Taking Identifier
any_name (identifier bytes at) = Some (bytes, at)
any_name (punctuator kind) = None
any_name (integer value) = None
any_name (decimal bytes) = None
any_name (string value) = None

-- this name
abbrev pub keyword : List ℕ → Taking (Unit {0})
keyword word (identifier bytes at) = when (bytes_eq bytes word)
keyword word (punctuator kind) = None
keyword word (integer value) = None
keyword word (decimal bytes) = None
keyword word (string value) = None

-- a string or a block string, by what it stands for
abbrev pub any_string : Taking (List ℕ)
any_string (string value) = Some value
any_string (identifier bytes at) = None
any_string (punctuator kind) = None
any_string (integer value) = None
any_string (decimal bytes) = None

-- there is a next symbol
abbrev pub is_there : Test
is_there w = is_some w

-- there is a next symbol, and it is of another kind
abbrev pub up_to : TokenKind → Test
up_to kind None = false
up_to kind (Some w) = not (takes (exact kind) (Some w))

abbrev pub never : Test
never w = false

-- Where the names of the definitions of a schema text stand, by its tokens.
use Rattle.std.specs.Prelude.{◌≡◌, ℕ, suc, ◌-◌, nat_eq, Bool, true, false, not, ◌&&◌, ◌||◌, List, [], ◌∷◌, codes, Option, None, Some, if◌then◌else◌}
use Rattle.std.specs.List.{list_any}
use Rattle.std.specs.Str.{bytes_eq}
use Rattle.std.specs.Option.{is_some}
use Rattle.gql_base.specs.declared.lexical.token.Token.{Token}
use Rattle.gql_base.specs.declared.lexical.token.TokenKind.{TokenKind}
use Rattle.gql_base.specs.declared.lexical.token.TokenKind.TheVariants.{Name, Amp, OpenParen, CloseParen, Colon, Equals, At, OpenBracket, CloseBracket, OpenBrace, Pipe, CloseBrace}
use Rattle.gql_base.specs.lexical.Tokens.{Lexes, bytes_at}
use Rattle.schema_rules.specs.Places.{PlaceTree, at_type, at_field, at_argument, at_directive, at_directive_argument, at_schema, place_text}

-- ---- tokens

abbrev pub is_name : TokenKind → Bool
is_name Name = true
is_name other = false

abbrev pub opens : TokenKind → Bool
opens OpenParen = true
opens OpenBracket = true
opens OpenBrace = true
opens other = false

abbrev pub closes : TokenKind → Bool
closes CloseParen = true
closes CloseBracket = true
closes CloseBrace = true
closes other = false

-- inside of brackets the name behind it is that of a type or a directive, or is a value
abbrev pub leads_on : TokenKind → Bool
leads_on Colon = true
leads_on At = true
leads_on Equals = true
leads_on OpenBracket = true
leads_on other = false

abbrev pub is_at : TokenKind → Bool
is_at At = true
is_at other = false

-- outside of brackets the name behind it is that of a type which is defined elsewhere
abbrev pub links : TokenKind → Bool
links Equals = true
links Pipe = true
links Amp = true
links other = false

abbrev pub depth_after : ℕ → TokenKind → ℕ
depth_after depth kind = if opens kind then suc depth else (if closes kind then depth - 1 else depth)

-- ---- what stands before a token

pub record Seen : Type 0 where
  -- how many brackets are open
  pub depth : ℕ
  -- the kind of the token before
  pub last : TokenKind
  -- the keyword that may stand before, with nothing but an `@` between; else nothing
  pub lead : List ℕ
  -- the bracket that is open outside of all others, or was the last
  pub outer : TokenKind
  -- the type or the directive that is being defined, and the last of its fields
  pub owner : Option PlaceTree
  pub field : Option PlaceTree

abbrev pub at_first : Seen
at_first = record { depth = 0; last = CloseBrace; lead = []; outer = CloseBrace; owner = None; field = None }

-- ---- sites

-- the words before the name of a type
abbrev pub defines_type : List ℕ → Bool
defines_type word = list_any (bytes_eq word) (codes "type" ∷ codes "interface" ∷ codes "union" ∷ codes "scalar" ∷ codes "enum" ∷ codes "input" ∷ [])

-- The name is that of a type or a directive which is defined elsewhere, by the token and the keyword before it.
abbrev pub refers : TokenKind → List ℕ → Bool
refers last lead = is_at last || (links last || bytes_eq lead (codes "implements"))

-- a name outside of all brackets
abbrev pub outer_site : TokenKind → List ℕ → List ℕ → Option PlaceTree
outer_site last lead word =
    if is_at last && bytes_eq lead (codes "directive") then Some (at_directive word)
    else (if is_name last && defines_type lead then Some (at_type word)
    else (if not (refers last lead) && bytes_eq word (codes "schema") then Some at_schema else None))

-- a name inside of one bracket of this kind
abbrev pub inner_site : TokenKind → Option PlaceTree → List ℕ → Option PlaceTree
inner_site OpenBrace (Some (at_type name)) word = Some (at_field name word)
inner_site OpenParen (Some (at_directive name)) word = Some (at_directive_argument name word)
inner_site other owner word = None

-- a name inside of two
abbrev pub argument_site : Option PlaceTree → List ℕ → Option PlaceTree
argument_site (Some (at_field of field)) word = Some (at_argument of field word)
argument_site other word = None

-- a name inside of brackets, of which so many are open
abbrev pub bracket_site : ℕ → Seen → List ℕ → Option PlaceTree
bracket_site depth seen word =
    if nat_eq depth 1 then inner_site seen.outer seen.owner word
    else (if nat_eq depth 2 then argument_site seen.field word else None)

abbrev pub site_at : Seen → List ℕ → Option PlaceTree
site_at seen word =
    if nat_eq seen.depth 0 then outer_site seen.last seen.lead word
    else (if leads_on seen.last then None else bracket_site seen.depth seen word)

-- what the token names, where it is one of a definition
abbrev pub site_of : Seen → TokenKind → List ℕ → Option PlaceTree
site_of seen kind word = if is_name kind then site_at seen word else None

-- ---- what stands before the next

abbrev pub owner_after : Option PlaceTree → Option PlaceTree → Option PlaceTree
owner_after owner (Some (at_type name)) = Some (at_type name)
owner_after owner (Some (at_directive name)) = Some (at_directive name)
owner_after owner (Some at_schema) = None
owner_after owner other = owner

abbrev pub field_after : Option PlaceTree → Option PlaceTree → Option PlaceTree
field_after field (Some (at_field of name)) = Some (at_field of name)
field_after field (Some (at_argument of name argument)) = field
field_after field (Some other) = None
field_after field None = field

abbrev pub outer_after : TokenKind → ℕ → TokenKind → TokenKind
outer_after outer depth kind = if nat_eq depth 0 && opens kind then kind else outer

-- the keyword that a name may be, where it is the name of nothing
abbrev pub keyword_of : Seen → List ℕ → List ℕ
keyword_of seen word = if is_some (site_at seen word) || refers seen.last seen.lead then [] else word

abbrev pub lead_after : Seen → TokenKind → List ℕ → List ℕ
lead_after seen kind word = if is_name kind then keyword_of seen word else (if is_at kind then seen.lead else [])

abbrev pub seen_after : Seen → TokenKind → List ℕ → Seen
seen_after seen kind word = record {
  depth = depth_after seen.depth kind;
  last = kind;
  lead = lead_after seen kind word;
  outer = outer_after seen.outer seen.depth kind;
  owner = owner_after seen.owner (site_of seen kind word);
  field = field_after seen.field (site_of seen kind word);
}

-- ---- a place

abbrev pub is_place : List ℕ → Option PlaceTree → Bool
is_place place None = false
is_place place (Some site) = bytes_eq (place_text site) place

-- the byte of the first token that names a thing with this text
abbrev pub first_site : List ℕ → List ℕ → Seen → List Token → Option ℕ
first_site text place seen [] = None
first_site text place seen (t ∷ ts) =
    if is_place place (site_of seen t.kind (bytes_at text t.span)) then Some t.span.start
    else first_site text place (seen_after seen t.kind (bytes_at text t.span)) ts

-- It is the byte at which the thing with this text is defined, if the text has tokens.
abbrev pub IsDefinedAt : List ℕ → List ℕ → Option ℕ → Type 0
IsDefinedAt text place at = (tokens : List Token) → Lexes true text tokens → at ≡ first_site text place at_first tokens

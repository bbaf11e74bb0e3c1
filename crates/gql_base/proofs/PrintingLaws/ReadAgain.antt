-- Symbols that are those in which a tree is printed, but for the offsets of names, are those of the same tree, but for
-- the offsets of its names.
use Rattle.std.proofs.Common.{ℕ, ◌≡◌, [], ◌∷◌, refl, ap}
use Rattle.std.specs.Prelude.{map}
use Rattle.gql_base.specs.ways.Symbols.{Symbol, punctuator, identifier, integer, decimal, string, Symbols}
use Rattle.gql_base.specs.ways.Grammar.{Nested, plain, Within}
use Rattle.gql_base.specs.parts.Values.{ValueTree, variable_value, integer_value, float_value, string_value, boolean_value, null_value, enum_value, list_value, object_value, ValueTrees, no_value, value_then, FieldTrees, no_field, field_then}
use Rattle.gql_base.specs.parts.TypeReferences.{TypeTree, named_type, list_type, non_null_type}
use Rattle.gql_base.specs.printing.PrintedTrees.{placeless, all_placeless, fields_placeless, type_placeless}
use Rattle.gql_base.specs.printing.PlacelessSymbols.{placeless_symbol}
use Rattle.gql_base.proofs.WayLaws.AlikeSymbols.{nested_alike, within_alike}
use Rattle.gql_base.proofs.WayLaws.AlikeLaws.{Alike}

-- the symbols are those of a thing that f makes the same, nested n deep at most
pub record ReadAgain {A : Type 0} (S : A → Nested → Type 0) (f : A → A) (n : ℕ) (a : A) (symbols : Symbols) : Type 0 where
  pub again : A
  pub front : Nested
  pub cut : plain front ≡ symbols
  pub written : S again front
  pub within : Within n front
  pub same : f again ≡ f a

pub read_again : {A : Type 0} {S : A → Nested → Type 0} {f : A → A} → Alike S f → (n : ℕ) (a : A) (ws : Nested) (symbols : Symbols) → S a ws → Within n ws → map placeless_symbol (plain ws) ≡ map placeless_symbol symbols → ReadAgain S f n a symbols
read_again s n a ws symbols is within e =
    let vs = nested_alike ws symbols e in
    let b = s.again a ws vs.0 is vs.2 in
    record { again = b.0; front = vs.0; cut = vs.1; written = b.1; within = within_alike n ws vs.0 vs.2 within; same = b.2 }

-- what has no offsets loses none

symbol_placeless_twice : (w : Symbol) → placeless_symbol (placeless_symbol w) ≡ placeless_symbol w
symbol_placeless_twice (punctuator kind) = refl
symbol_placeless_twice (identifier bytes at) = refl
symbol_placeless_twice (integer value) = refl
symbol_placeless_twice (decimal bytes) = refl
symbol_placeless_twice (string value) = refl

pub symbols_placeless_twice : (zs : Symbols) → map placeless_symbol (map placeless_symbol zs) ≡ map placeless_symbol zs
symbols_placeless_twice [] = refl
symbols_placeless_twice (z ∷ zs) = cc (symbol_placeless_twice z, symbols_placeless_twice zs)

mutual
  unfolding placeless

  pub placeless_twice : (t : ValueTree) → placeless (placeless t) ≡ placeless t
  placeless_twice (variable_value name at) = refl
  placeless_twice (integer_value v) = refl
  placeless_twice (float_value bytes) = refl
  placeless_twice (string_value v) = refl
  placeless_twice (boolean_value b) = refl
  placeless_twice null_value = refl
  placeless_twice (enum_value name at) = refl
  placeless_twice (list_value values) = ap list_value (all_placeless_twice values)
  placeless_twice (object_value fields) = ap object_value (fields_placeless_twice fields)

  all_placeless_twice : (ts : ValueTrees) → all_placeless (all_placeless ts) ≡ all_placeless ts
  all_placeless_twice no_value = refl
  all_placeless_twice (value_then t ts) = cc (placeless_twice t, all_placeless_twice ts)

  fields_placeless_twice : (fs : FieldTrees) → fields_placeless (fields_placeless fs) ≡ fields_placeless fs
  fields_placeless_twice no_field = refl
  fields_placeless_twice (field_then name at t fs) = cc (placeless_twice t, fields_placeless_twice fs)

pub type_placeless_twice : (t : TypeTree) → type_placeless (type_placeless t) ≡ type_placeless t
unfolding type_placeless
type_placeless_twice (named_type name at) = refl
type_placeless_twice (list_type t) = ap list_type (type_placeless_twice t)
type_placeless_twice (non_null_type t) = ap non_null_type (type_placeless_twice t)

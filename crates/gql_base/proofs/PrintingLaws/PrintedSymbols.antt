-- A value or a type is printed in the symbols that it is written with, without the offsets of names.
use Rattle.std.proofs.Common.{ℕ, suc, ◌≡◌, Bool, true, false, List, [], ◌∷◌, ◌++◌, Some, refl, sym, ap, ◌∙◌}
use Rattle.std.specs.Prelude.{codes, map, if◌then◌else◌}
use Rattle.std.specs.Str.{bytes_eq}
use Rattle.std.proofs.lemmas.List.{map-append}
use Rattle.std.proofs.lemmas.Slice.Eq.{bytes_eq-Decides}
use Rattle.std.proofs.lemmas.Option.{same_Some}
use Rattle.gql_base.specs.declared.lexical.token.TokenKind.{TokenKind}
use Rattle.gql_base.specs.declared.lexical.token.TokenKind.TheVariants.{Bang, Colon, OpenBracket, CloseBracket, OpenBrace, CloseBrace}
use Rattle.gql_base.specs.ways.Symbols.{Symbol, punctuator, identifier, integer, decimal, string, Symbols}
use Rattle.gql_base.specs.ways.Grammar.{Nested, plain, Bracketed}
use Rattle.gql_base.specs.parts.Values.{ValueTree, variable_value, integer_value, float_value, string_value, boolean_value, null_value, enum_value, list_value, object_value, ValueTrees, no_value, value_then, FieldTrees, no_field, field_then, value_of_name, literal, IsValue, AreValues, AreFields}
use Rattle.gql_base.specs.parts.TypeReferences.{TypeTree, named_type, list_type, non_null_type, IsType}
use Rattle.gql_base.specs.printing.PrintedTrees.{value_symbols, values_symbols, fields_symbols, type_symbols}
use Rattle.gql_base.specs.printing.PlacelessSymbols.{placeless_symbol}
use Rattle.gql_base.proofs.WayLaws.ReadingLaws.{plain_append}

-- symbols without their nestings and without the offsets of names
abbrev pub bare : Nested → Symbols
bare ws = map placeless_symbol (plain ws)

pub bare_append : (f g : Nested) → bare (f ++ g) ≡ bare f ++ bare g
bare_append f g = ap (map placeless_symbol) (plain_append f g) ∙ map-append placeless_symbol (plain f) (plain g)

pub bare_bracketed : (o c : TokenKind) (d : ℕ) (P : Nested → Type 0) (ws : Nested) (symbols : Symbols) → Bracketed o c d P ws → ((inner : Nested) → P inner → symbols ≡ bare inner) → punctuator o ∷ (symbols ++ (punctuator c ∷ [])) ≡ bare ws
bare_bracketed o c d P ws symbols is inside =
    let close : Nested = (punctuator c, suc d) ∷ [] in
    ap (λ (l : Symbols). punctuator o ∷ l) (ap (λ (l : Symbols). l ++ (punctuator c ∷ [])) (inside is.0 is.2) ∙ sym (bare_append is.0 close)) ∙ ap bare (sym is.1)

-- the symbol of a value of one symbol

named_symbol : (at : ℕ) (name : List ℕ) (a b c : Bool) → (a ≡ true → name ≡ codes "true") → (b ≡ true → name ≡ codes "false") → (c ≡ true → name ≡ codes "null")
    → value_symbols (if a then boolean_value true else if b then boolean_value false else if c then null_value else enum_value name at) ≡ identifier name 0 ∷ []
unfolding value_symbols
named_symbol at name true b c is_true is_false is_null = ap (λ (n : List ℕ). identifier n 0 ∷ []) (sym (is_true refl))
named_symbol at name false true c is_true is_false is_null = ap (λ (n : List ℕ). identifier n 0 ∷ []) (sym (is_false refl))
named_symbol at name false false true is_true is_false is_null = ap (λ (n : List ℕ). identifier n 0 ∷ []) (sym (is_null refl))
named_symbol at name false false false is_true is_false is_null = refl

literal_symbol : (w : Symbol) (t : ValueTree) → literal w ≡ Some t → value_symbols t ≡ placeless_symbol w ∷ []
unfolding value_symbols
literal_symbol (punctuator kind) t e = cc
literal_symbol (integer value) t e = ap value_symbols (sym (same_Some (integer_value value) t e))
literal_symbol (decimal bytes) t e = ap value_symbols (sym (same_Some (float_value bytes) t e))
literal_symbol (string value) t e = ap value_symbols (sym (same_Some (string_value value) t e))
literal_symbol (identifier name at) t e = ap value_symbols (sym (same_Some (value_of_name name at) t e))
    ∙ named_symbol at name (bytes_eq name (codes "true")) (bytes_eq name (codes "false")) (bytes_eq name (codes "null"))
    (bytes_eq-Decides name (codes "true")).0 (bytes_eq-Decides name (codes "false")).0 (bytes_eq-Decides name (codes "null")).0

leaf_symbols : (d : ℕ) (t : ValueTree) (ws : Nested) → (w : Symbol) × (ws ≡ (w, d) ∷ []) × (literal w ≡ Some t) → value_symbols t ≡ bare ws
leaf_symbols d t ws is = literal_symbol is.0 t is.2 ∙ ap bare (sym is.1)

mutual
  unfolding IsValue value_symbols

  pub value_is_bare : (c : Bool) (d : ℕ) (t : ValueTree) (ws : Nested) → IsValue c d t ws → value_symbols t ≡ map placeless_symbol (plain ws)
  value_is_bare c d (variable_value name at) ws is = ap bare (sym is.1)
  value_is_bare c d (integer_value v) ws is = leaf_symbols d (integer_value v) ws is
  value_is_bare c d (float_value bytes) ws is = leaf_symbols d (float_value bytes) ws is
  value_is_bare c d (string_value v) ws is = leaf_symbols d (string_value v) ws is
  value_is_bare c d (boolean_value b) ws is = leaf_symbols d (boolean_value b) ws is
  value_is_bare c d null_value ws is = leaf_symbols d null_value ws is
  value_is_bare c d (enum_value name at) ws is = leaf_symbols d (enum_value name at) ws is
  value_is_bare c d (list_value values) ws is = bare_bracketed OpenBracket CloseBracket d (AreValues c (suc d) values) ws (values_symbols values) is (λ inner are. values_are_bare c (suc d) values inner are)
  value_is_bare c d (object_value fields) ws is = bare_bracketed OpenBrace CloseBrace d (AreFields c (suc d) fields) ws (fields_symbols fields) is (λ inner are. fields_are_bare c (suc d) fields inner are)

  values_are_bare : (c : Bool) (d : ℕ) (ts : ValueTrees) (ws : Nested) → AreValues c d ts ws → values_symbols ts ≡ map placeless_symbol (plain ws)
  values_are_bare c d no_value ws are = ap bare (sym are)
  values_are_bare c d (value_then t ts) ws are =
      ap (λ (l : Symbols). l ++ values_symbols ts) (value_is_bare c d t are.0 are.3) ∙ (ap (λ (l : Symbols). bare are.0 ++ l) (values_are_bare c d ts are.1 are.4) ∙ (sym (bare_append are.0 are.1) ∙ ap bare (sym are.2)))

  fields_are_bare : (c : Bool) (d : ℕ) (fs : FieldTrees) (ws : Nested) → AreFields c d fs ws → fields_symbols fs ≡ map placeless_symbol (plain ws)
  fields_are_bare c d no_field ws are = ap bare (sym are)
  fields_are_bare c d (field_then name at t fs) ws are =
      ap (λ (l : Symbols). identifier name 0 ∷ punctuator Colon ∷ l) (ap (λ (l : Symbols). l ++ fields_symbols fs) (value_is_bare c d t are.0 are.3) ∙ (ap (λ (l : Symbols). bare are.0 ++ l) (fields_are_bare c d fs are.1 are.4) ∙ sym (bare_append are.0 are.1))) ∙ ap bare (sym are.2)

pub type_is_bare : (d : ℕ) (t : TypeTree) (ws : Nested) → IsType d t ws → type_symbols t ≡ map placeless_symbol (plain ws)
unfolding IsType type_symbols
type_is_bare d (named_type name at) ws is = ap bare (sym is)
type_is_bare d (list_type t) ws is = bare_bracketed OpenBracket CloseBracket d (IsType (suc d) t) ws (type_symbols t) is (λ inner of. type_is_bare (suc d) t inner of)
type_is_bare d (non_null_type t) ws is =
    ap (λ (l : Symbols). l ++ (punctuator Bang ∷ [])) (type_is_bare d t is.1 is.3) ∙ (sym (bare_append is.1 ((punctuator Bang, d) ∷ [])) ∙ ap bare (sym is.2))

-- The same symbols at other offsets are the same value or type, but for the offsets of its names.
use Rattle.std.proofs.Common.{ℕ, suc, ◌≡◌, Bool, true, false, List, [], ◌∷◌, ◌++◌, Some, refl, ap, ◌∙◌, subst}
use Rattle.std.specs.Prelude.{codes, if◌then◌else◌}
use Rattle.std.specs.Str.{bytes_eq}
use Rattle.std.specs.Option.{option_map}
use Rattle.gql_base.specs.declared.lexical.token.TokenKind.TheVariants.{Bang, Dollar, Colon, OpenBracket, CloseBracket, OpenBrace, CloseBrace}
use Rattle.gql_base.specs.ways.Symbols.{Symbol, punctuator, identifier, integer, decimal, string}
use Rattle.gql_base.specs.ways.Grammar.{Nested}
use Rattle.gql_base.specs.parts.Values.{ValueTree, variable_value, integer_value, float_value, string_value, boolean_value, null_value, enum_value, list_value, object_value, ValueTrees, no_value, value_then, FieldTrees, no_field, field_then, literal, IsValue, AreValues, AreFields}
use Rattle.gql_base.specs.parts.TypeReferences.{TypeTree, named_type, list_type, non_null_type, IsNullable, IsType}
use Rattle.gql_base.specs.printing.PrintedTrees.{placeless, all_placeless, fields_placeless, type_placeless}
use Rattle.gql_base.specs.printing.Alike.{AreAlike}
use Rattle.gql_base.proofs.WayLaws.AlikeSymbols.{moved_symbol, moves, none_alike, split_alike, one_alike, punctuator_alike, name_alike}
use Rattle.gql_base.proofs.WayLaws.AlikeLaws.{Alike, bracketed_alike}

-- values of one symbol

-- a value of one symbol, with this offset if it is an enum value
abbrev moved_literal : ℕ → ValueTree → ValueTree
moved_literal place (enum_value name at) = enum_value name place
moved_literal place t = t

name_moves : (place at : ℕ) (name : List ℕ) (a b c : Bool)
    → (if a then boolean_value true else if b then boolean_value false else if c then null_value else enum_value name place)
    ≡ moved_literal place (if a then boolean_value true else if b then boolean_value false else if c then null_value else enum_value name at)
name_moves place at name true b c = refl
name_moves place at name false true c = refl
name_moves place at name false false true = refl
name_moves place at name false false false = refl

literal_moves : (place : ℕ) (w : Symbol) → literal (moved_symbol place w) ≡ option_map (moved_literal place) (literal w)
literal_moves place (punctuator kind) = refl
literal_moves place (identifier name at) = ap (λ (t : ValueTree). Some t) (name_moves place at name (bytes_eq name (codes "true")) (bytes_eq name (codes "false")) (bytes_eq name (codes "null")))
literal_moves place (integer value) = refl
literal_moves place (decimal bytes) = refl
literal_moves place (string value) = refl

-- the same symbol with another offset is a value of one symbol with some offset
abbrev Leaf : ℕ → ValueTree → Nested → Type 0
Leaf d t ws = (w : Symbol) × (ws ≡ (w, d) ∷ []) × (literal w ≡ Some t)

leaf_again : (d : ℕ) (t : ValueTree) (ws vs : Nested) → Leaf d t ws → AreAlike ws vs → (place : ℕ) × Leaf d (moved_literal place t) vs
leaf_again d t ws vs is alike =
    let v = one_alike is.0 d vs (subst (λ (l : Nested). AreAlike l vs) is.1 alike) in
    let m = moves is.0 v.0 v.2 in
    (m.0, (v.0, v.1, ap literal m.1 ∙ (literal_moves m.0 is.0 ∙ ap (option_map (moved_literal m.0)) is.2)))

mutual
  unfolding IsValue placeless

  pub value_again : (c : Bool) (d : ℕ) (t : ValueTree) (ws vs : Nested) → IsValue c d t ws → AreAlike ws vs → (u : ValueTree) × IsValue c d u vs × (placeless u ≡ placeless t)
  value_again c d (variable_value name at) ws vs is alike =
      let dollar = punctuator_alike Dollar d ((identifier name at, d) ∷ []) vs (subst (λ (l : Nested). AreAlike l vs) is.1 alike) in
      let n = name_alike name at d [] dollar.0 dollar.2 in
      (variable_value name n.0, (is.0, dollar.1 ∙ ap (λ (l : Nested). (punctuator Dollar, d) ∷ l) (n.2 ∙ ap (λ (l : Nested). (identifier name n.0, d) ∷ l) (none_alike n.1 n.3))), refl)
  value_again c d (integer_value v) ws vs is alike = let r = leaf_again d (integer_value v) ws vs is alike in (integer_value v, r.1, refl)
  value_again c d (float_value bytes) ws vs is alike = let r = leaf_again d (float_value bytes) ws vs is alike in (float_value bytes, r.1, refl)
  value_again c d (string_value v) ws vs is alike = let r = leaf_again d (string_value v) ws vs is alike in (string_value v, r.1, refl)
  value_again c d (boolean_value b) ws vs is alike = let r = leaf_again d (boolean_value b) ws vs is alike in (boolean_value b, r.1, refl)
  value_again c d null_value ws vs is alike = let r = leaf_again d null_value ws vs is alike in (null_value, r.1, refl)
  value_again c d (enum_value name at) ws vs is alike = let r = leaf_again d (enum_value name at) ws vs is alike in (enum_value name r.0, r.1, refl)
  value_again c d (list_value values) ws vs is alike =
      let r = bracketed_alike {f = all_placeless} OpenBracket CloseBracket d (AreValues c (suc d)) values ws vs is alike (λ inner others are l. values_again c (suc d) values inner others are l) in
      (list_value r.0, r.1, ap list_value r.2)
  value_again c d (object_value fields) ws vs is alike =
      let r = bracketed_alike {f = fields_placeless} OpenBrace CloseBrace d (AreFields c (suc d)) fields ws vs is alike (λ inner others are l. fields_again c (suc d) fields inner others are l) in
      (object_value r.0, r.1, ap object_value r.2)

  values_again : (c : Bool) (d : ℕ) (ts : ValueTrees) (ws vs : Nested) → AreValues c d ts ws → AreAlike ws vs → (us : ValueTrees) × AreValues c d us vs × (all_placeless us ≡ all_placeless ts)
  values_again c d no_value ws vs are alike = (no_value, none_alike vs (subst (λ (l : Nested). AreAlike l vs) are alike), refl)
  values_again c d (value_then t ts) ws vs are alike =
      let cut = split_alike are.0 are.1 vs (subst (λ (l : Nested). AreAlike l vs) are.2 alike) in
      let u = value_again c d t are.0 cut.0 are.3 cut.3 in
      let us = values_again c d ts are.1 cut.1 are.4 cut.4 in
      (value_then u.0 us.0, (cut.0, cut.1, cut.2, u.1, us.1), cc (u.2, us.2))

  fields_again : (c : Bool) (d : ℕ) (fs : FieldTrees) (ws vs : Nested) → AreFields c d fs ws → AreAlike ws vs → (us : FieldTrees) × AreFields c d us vs × (fields_placeless us ≡ fields_placeless fs)
  fields_again c d no_field ws vs are alike = (no_field, none_alike vs (subst (λ (l : Nested). AreAlike l vs) are alike), refl)
  fields_again c d (field_then name at t fs) ws vs are alike =
      let cut = split_alike ((identifier name at, d) ∷ (punctuator Colon, d) ∷ are.0) are.1 vs (subst (λ (l : Nested). AreAlike l vs) are.2 alike) in
      let n = name_alike name at d ((punctuator Colon, d) ∷ are.0) cut.0 cut.3 in
      let colon = punctuator_alike Colon d are.0 n.1 n.3 in
      let u = value_again c d t are.0 colon.0 are.3 colon.2 in
      let us = fields_again c d fs are.1 cut.1 are.4 cut.4 in
      let front : cut.0 ≡ (identifier name n.0, d) ∷ (punctuator Colon, d) ∷ colon.0 = n.2 ∙ ap (λ (l : Nested). (identifier name n.0, d) ∷ l) colon.1 in
      (field_then name n.0 u.0 us.0, (colon.0, cut.1, cut.2 ∙ ap (λ (l : Nested). l ++ cut.1) front, u.1, us.1), cc (u.2, us.2))

pub value_alike : (c : Bool) (d : ℕ) → Alike (IsValue c d) placeless
value_alike c d = record { again = value_again c d }

-- types

nullable_again : (t u : TypeTree) → type_placeless u ≡ type_placeless t → IsNullable t → IsNullable u
unfolding type_placeless
nullable_again t (named_type name at) e is = tt
nullable_again t (list_type u) e is = tt
nullable_again (named_type name at) (non_null_type u) e is = cc
nullable_again (list_type t) (non_null_type u) e is = cc
nullable_again (non_null_type t) (non_null_type u) e is = absurd is

pub type_again : (d : ℕ) (t : TypeTree) (ws vs : Nested) → IsType d t ws → AreAlike ws vs → (u : TypeTree) × IsType d u vs × (type_placeless u ≡ type_placeless t)
unfolding IsType type_placeless
type_again d (named_type name at) ws vs is alike =
    let n = name_alike name at d [] vs (subst (λ (l : Nested). AreAlike l vs) is alike) in
    (named_type name n.0, n.2 ∙ ap (λ (l : Nested). (identifier name n.0, d) ∷ l) (none_alike n.1 n.3), refl)
type_again d (list_type t) ws vs is alike =
    let r = bracketed_alike {f = type_placeless} OpenBracket CloseBracket d (IsType (suc d)) t ws vs is alike (λ inner others of l. type_again (suc d) t inner others of l) in
    (list_type r.0, r.1, ap list_type r.2)
type_again d (non_null_type t) ws vs is alike =
    let bang : Nested = (punctuator Bang, d) ∷ [] in
    let cut = split_alike is.1 bang vs (subst (λ (l : Nested). AreAlike l vs) is.2 alike) in
    let last = punctuator_alike Bang d [] cut.1 cut.4 in
    let ends : cut.1 ≡ bang = last.1 ∙ ap (λ (l : Nested). (punctuator Bang, d) ∷ l) (none_alike last.0 last.2) in
    let u = type_again d t is.1 cut.0 is.3 cut.3 in
    (non_null_type u.0, (nullable_again t u.0 u.2 is.0, cut.0, cut.2 ∙ ap (λ (l : Nested). cut.0 ++ l) ends, u.1), ap non_null_type u.2)

pub type_alike : (d : ℕ) → Alike (IsType d) type_placeless
type_alike d = record { again = type_again d }

-- What is printed of a value or a type is written as the same tree, offsets aside, and nested no deeper.
use Rattle.std.proofs.Common.{ℕ, suc, ◌≡◌, Bool, true, false, List, [], ◌∷◌, ◌++◌, Option, Some, refl, ap, ◌∙◌, subst}
use Rattle.std.specs.Prelude.{codes, if◌then◌else◌}
use Rattle.std.specs.Str.{bytes_eq}
use Rattle.gql_base.specs.declared.lexical.token.TokenKind.{TokenKind}
use Rattle.gql_base.specs.declared.lexical.token.TokenKind.TheVariants.{Bang, Dollar, Colon, OpenBracket, CloseBracket, OpenBrace, CloseBrace}
use Rattle.gql_base.specs.ways.Symbols.{Symbol, punctuator, identifier, integer, decimal, string, Symbols}
use Rattle.gql_base.specs.ways.Grammar.{Nested, plain, Within, Bracketed}
use Rattle.gql_base.specs.parts.Values.{ValueTree, variable_value, integer_value, float_value, string_value, boolean_value, null_value, enum_value, list_value, object_value, ValueTrees, no_value, value_then, FieldTrees, no_field, field_then, literal, IsValue, AreValues, AreFields}
use Rattle.gql_base.specs.parts.TypeReferences.{TypeTree, named_type, list_type, non_null_type, IsNullable, IsType}
use Rattle.gql_base.specs.printing.PrintedTrees.{printed_name, boolean_name, value_symbols, values_symbols, fields_symbols, type_symbols, placeless, all_placeless, fields_placeless, type_placeless}
use Rattle.gql_base.proofs.WayLaws.ReadingLaws.{plain_append, within_append, within_front, within_back}

-- The symbols are those of the thing, nested n deep at most.
pub record Rewritten (n : ℕ) (P : Nested → Type 0) (symbols : Symbols) : Type 0 where
  pub front : Nested
  pub same : plain front ≡ symbols
  pub within : Within n front
  pub written : P front

one_within : (n d : ℕ) (w v : Symbol) (ws : Nested) → ws ≡ (w, d) ∷ [] → Within n ws → Within n ((v, d) ∷ [])
one_within n d w v ws e b = let h : Within n ((w, d) ∷ []) = subst (Within n) e b in (h.0, tt)

boolean_literal : (b : Bool) → literal (identifier (boolean_name b) 0) ≡ Some (boolean_value b)
boolean_literal true = refl
boolean_literal false = refl

abbrev SameTree : Option ValueTree → Option ValueTree → Type 0
SameTree a b = a ≡ b

-- a name that is an enum value is one at every place
enum_anywhere : (bytes name : List ℕ) (at place : ℕ) (a b c : Bool)
    → SameTree (Some (if a then boolean_value true else if b then boolean_value false else if c then null_value else enum_value bytes at)) (Some (enum_value name place))
    → SameTree (Some (if a then boolean_value true else if b then boolean_value false else if c then null_value else enum_value bytes 0)) (Some (enum_value bytes 0)) × (bytes ≡ name)
enum_anywhere bytes name at place true b c e = cc
enum_anywhere bytes name at place false true c e = cc
enum_anywhere bytes name at place false false true e = cc
enum_anywhere bytes name at place false false false e = (refl, cc)

enum_literal : (w : Symbol) (name : List ℕ) (at : ℕ) → literal w ≡ Some (enum_value name at) → literal (identifier name 0) ≡ Some (enum_value name 0)
enum_literal (punctuator k) name at e = cc
enum_literal (integer v) name at e = cc
enum_literal (decimal bytes) name at e = cc
enum_literal (string v) name at e = cc
enum_literal (identifier bytes place) name at e =
    let p = enum_anywhere bytes name place at (bytes_eq bytes (codes "true")) (bytes_eq bytes (codes "false")) (bytes_eq bytes (codes "null")) e in
    subst (λ (m : List ℕ). literal (identifier m 0) ≡ Some (enum_value m 0)) p.1 p.0

pub bracketed_rewritten : (n d : ℕ) (o c : TokenKind) (P Q : Nested → Type 0) (ws : Nested) (symbols : Symbols) → Bracketed o c d P ws → Within n ws
    → ((inner : Nested) → P inner → Within n inner → Rewritten n Q symbols) → Rewritten n (Bracketed o c d Q) (punctuator o ∷ (symbols ++ (punctuator c ∷ [])))
bracketed_rewritten n d o c P Q ws symbols is b inside =
    let h : Within n ((punctuator o, suc d) ∷ (is.0 ++ ((punctuator c, suc d) ∷ []))) = subst (Within n) is.1 b in
    let r = inside is.0 is.2 (within_front n is.0 ((punctuator c, suc d) ∷ []) h.1) in
    record {
      front = (punctuator o, suc d) ∷ (r.front ++ ((punctuator c, suc d) ∷ []));
      same = ap (λ (l : Symbols). punctuator o ∷ l) (plain_append r.front ((punctuator c, suc d) ∷ []) ∙ ap (λ (l : Symbols). l ++ (punctuator c ∷ [])) r.same);
      within = (h.0, within_append n r.front ((punctuator c, suc d) ∷ []) r.within (h.0, tt));
      written = (r.front, refl, r.written);
    }

mutual
  unfolding IsValue value_symbols placeless

  pub value_rewritten : (n : ℕ) (c : Bool) (d : ℕ) (t : ValueTree) (ws : Nested) → IsValue c d t ws → Within n ws → Rewritten n (IsValue c d (placeless t)) (value_symbols t)
  value_rewritten n c d (variable_value name at) ws is b = let h = subst (Within n) is.1 b in record { front = (punctuator Dollar, d) ∷ (identifier name 0, d) ∷ []; same = refl; within = (h.0, (h.1.0, tt)); written = (is.0, refl) }
  value_rewritten n c d (integer_value v) ws is b = record { front = (integer v, d) ∷ []; same = refl; within = one_within n d is.0 (integer v) ws is.1 b; written = (integer v, refl, refl) }
  value_rewritten n c d (float_value bytes) ws is b = record { front = (decimal bytes, d) ∷ []; same = refl; within = one_within n d is.0 (decimal bytes) ws is.1 b; written = (decimal bytes, refl, refl) }
  value_rewritten n c d (string_value v) ws is b = record { front = (string v, d) ∷ []; same = refl; within = one_within n d is.0 (string v) ws is.1 b; written = (string v, refl, refl) }
  value_rewritten n c d (boolean_value v) ws is b = record { front = (identifier (boolean_name v) 0, d) ∷ []; same = refl; within = one_within n d is.0 (identifier (boolean_name v) 0) ws is.1 b; written = (identifier (boolean_name v) 0, refl, boolean_literal v) }
  value_rewritten n c d null_value ws is b = record { front = (identifier (codes "null") 0, d) ∷ []; same = refl; within = one_within n d is.0 (identifier (codes "null") 0) ws is.1 b; written = (identifier (codes "null") 0, refl, refl) }
  value_rewritten n c d (enum_value name at) ws is b = record { front = (identifier name 0, d) ∷ []; same = refl; within = one_within n d is.0 (identifier name 0) ws is.1 b; written = (identifier name 0, refl, enum_literal is.0 name at is.2) }
  value_rewritten n c d (list_value values) ws is b = bracketed_rewritten n d OpenBracket CloseBracket (AreValues c (suc d) values) (AreValues c (suc d) (all_placeless values)) ws (values_symbols values) is b (λ inner are w. values_rewritten n c (suc d) values inner are w)
  value_rewritten n c d (object_value fields) ws is b = bracketed_rewritten n d OpenBrace CloseBrace (AreFields c (suc d) fields) (AreFields c (suc d) (fields_placeless fields)) ws (fields_symbols fields) is b (λ inner are w. fields_rewritten n c (suc d) fields inner are w)

  values_rewritten : (n : ℕ) (c : Bool) (d : ℕ) (ts : ValueTrees) (ws : Nested) → AreValues c d ts ws → Within n ws → Rewritten n (AreValues c d (all_placeless ts)) (values_symbols ts)
  values_rewritten n c d no_value ws are b = record { front = []; same = refl; within = tt; written = refl }
  values_rewritten n c d (value_then t ts) ws are b =
      let h = subst (Within n) are.2 b in
      let r = value_rewritten n c d t are.0 are.3 (within_front n are.0 are.1 h) in
      let q = values_rewritten n c d ts are.1 are.4 (within_back n are.0 are.1 h) in
      record { front = r.front ++ q.front; same = plain_append r.front q.front ∙ (ap (λ (l : Symbols). l ++ plain q.front) r.same ∙ ap (λ (l : Symbols). value_symbols t ++ l) q.same); within = within_append n r.front q.front r.within q.within; written = (r.front, q.front, refl, r.written, q.written) }

  fields_rewritten : (n : ℕ) (c : Bool) (d : ℕ) (fs : FieldTrees) (ws : Nested) → AreFields c d fs ws → Within n ws → Rewritten n (AreFields c d (fields_placeless fs)) (fields_symbols fs)
  fields_rewritten n c d no_field ws are b = record { front = []; same = refl; within = tt; written = refl }
  fields_rewritten n c d (field_then name at t fs) ws are b =
      let h : Within n (((identifier name at, d) ∷ (punctuator Colon, d) ∷ are.0) ++ are.1) = subst (Within n) are.2 b in
      let r = value_rewritten n c d t are.0 are.3 (within_front n are.0 are.1 h.1.1) in
      let q = fields_rewritten n c d fs are.1 are.4 (within_back n are.0 are.1 h.1.1) in
      record {
        front = ((identifier name 0, d) ∷ (punctuator Colon, d) ∷ r.front) ++ q.front;
        same = ap (λ (l : Symbols). printed_name name ∷ punctuator Colon ∷ l) (plain_append r.front q.front ∙ (ap (λ (l : Symbols). l ++ plain q.front) r.same ∙ ap (λ (l : Symbols). value_symbols t ++ l) q.same));
        within = (h.0, (h.1.0, within_append n r.front q.front r.within q.within));
        written = (r.front, q.front, refl, r.written, q.written);
      }

nullable_placeless : (t : TypeTree) → IsNullable t → IsNullable (type_placeless t)
unfolding type_placeless
nullable_placeless (named_type name at) is = tt
nullable_placeless (list_type t) is = tt
nullable_placeless (non_null_type t) is = absurd is

pub type_rewritten : (n d : ℕ) (t : TypeTree) (ws : Nested) → IsType d t ws → Within n ws → Rewritten n (IsType d (type_placeless t)) (type_symbols t)
unfolding IsType type_symbols type_placeless
type_rewritten n d (named_type name at) ws is b = record { front = (identifier name 0, d) ∷ []; same = refl; within = one_within n d (identifier name at) (identifier name 0) ws is b; written = refl }
type_rewritten n d (list_type t) ws is b = bracketed_rewritten n d OpenBracket CloseBracket (IsType (suc d) t) (IsType (suc d) (type_placeless t)) ws (type_symbols t) is b (λ inner of w. type_rewritten n (suc d) t inner of w)
type_rewritten n d (non_null_type t) ws is b =
    let h : Within n (is.1 ++ ((punctuator Bang, d) ∷ [])) = subst (Within n) is.2 b in
    let r = type_rewritten n d t is.1 is.3 (within_front n is.1 ((punctuator Bang, d) ∷ []) h) in
    record { front = r.front ++ ((punctuator Bang, d) ∷ []); same = plain_append r.front ((punctuator Bang, d) ∷ []) ∙ ap (λ (l : Symbols). l ++ (punctuator Bang ∷ [])) r.same; within = within_append n r.front ((punctuator Bang, d) ∷ []) r.within (within_back n is.1 ((punctuator Bang, d) ∷ []) h); written = (nullable_placeless t is.0, r.front, refl, r.written) }

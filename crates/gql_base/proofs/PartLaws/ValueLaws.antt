-- Reading values gives what is written as values.
use Rattle.std.proofs.Common.{ℕ, ℤ, zero, suc, ◌+◌, ◌≡◌, ◌≤◌, inl, inr, Bool, true, false, List, [], ◌∷◌, ◌++◌, Option, None, Some, refl, sym, ap, ◌∙◌, subst, arith}
use Rattle.std.specs.Prelude.{codes, if◌then◌else◌}
use Rattle.std.specs.Str.{bytes_eq}
use Rattle.gql_base.specs.declared.lexical.token.TokenKind.TheVariants.{Dollar, Colon, OpenBracket, CloseBracket, OpenBrace, CloseBrace}
use Rattle.gql_base.specs.ways.Symbols.{Symbol, punctuator, identifier, integer, decimal, string}
use Rattle.gql_base.specs.ways.Reading.{Reader, Test, takes, level, exact, any_name, up_to, never}
use Rattle.gql_base.specs.ways.Grammar.{Nested, Single, Pair, Image, Choice, Repeated, Level}
use Rattle.gql_base.specs.parts.Values.{ValueTree, variable_value, integer_value, float_value, string_value, boolean_value, null_value, enum_value, list_value, object_value, ValueTrees, no_value, value_then, FieldTrees, no_field, field_then, literal, IsValue, AreValues, AreFields, values_from, NamedValue, fields_from, list_of, object_of, named_value_of, variable_of, named_value_at, in_list, in_object, takes_variable, simple_at, value_with, value_at}
use Rattle.gql_base.proofs.WayLaws.ReadingLaws.{Law, Heads, as_law, image_law, single_law, choice_law, after}
use Rattle.gql_base.proofs.WayLaws.LevelLaws.{open_law, shut_law, Family}
use Rattle.gql_base.proofs.WayLaws.SymbolTests.{exact_is, name_is, mark_law, name_law, heads_single, heads_mark, heads_name, SaysOfNames, heads_pair, heads_image, heads_choice, passes_heads, closed_law, from_brackets, to_brackets, heads_level, takes_level}

-- values by the ways of reading

abbrev WrittenList : Bool → ℕ → ValueTree → Nested → Type 0
WrittenList c d = Level (exact OpenBracket) d (Image list_of (Pair (Repeated (IsValue c (suc d))) (Single (exact CloseBracket) (suc d))))

abbrev pub WrittenField : Bool → ℕ → NamedValue → Nested → Type 0
WrittenField c d = Image named_value_of (Pair (Single any_name d) (Pair (Single (exact Colon) d) (IsValue c d)))

abbrev WrittenObject : Bool → ℕ → ValueTree → Nested → Type 0
WrittenObject c d = Level (exact OpenBrace) d (Image object_of (Pair (Repeated (WrittenField c (suc d))) (Single (exact CloseBrace) (suc d))))

abbrev WrittenVariable : ℕ → ValueTree → Nested → Type 0
WrittenVariable d = Image variable_of (Pair (Single (exact Dollar) d) (Single any_name d))

abbrev WrittenSimple : Bool → ℕ → ValueTree → Nested → Type 0
WrittenSimple true d = Single literal d
WrittenSimple false d = Choice (WrittenVariable d) (Single literal d)

abbrev WrittenValue : Bool → ℕ → ValueTree → Nested → Type 0
WrittenValue c d = Choice (WrittenList c d) (Choice (WrittenObject c d) (WrittenSimple c d))

-- a value of one symbol is no variable, list or object

abbrev IsLeaf : ValueTree → Type 0
IsLeaf (variable_value n at) = ⊥
IsLeaf (list_value vs) = ⊥
IsLeaf (object_value fs) = ⊥
IsLeaf t = Unit {0}

if_leaf : (b : Bool) (x y : ValueTree) → IsLeaf x → IsLeaf y → IsLeaf (if b then x else y)
if_leaf true x y p q = p
if_leaf false x y p q = q

abbrev LeafOf : Option ValueTree → Type 0
LeafOf None = ⊥
LeafOf (Some t) = IsLeaf t

literal_leaf : (w : Symbol) (t : ValueTree) → literal w ≡ Some t → IsLeaf t
literal_leaf (punctuator k) t e = cc
literal_leaf (identifier n at) t e = subst LeafOf e (if_leaf (bytes_eq n (codes "true")) (boolean_value true) _ tt (if_leaf (bytes_eq n (codes "false")) (boolean_value false) _ tt (if_leaf (bytes_eq n (codes "null")) null_value (enum_value n at) tt tt)))
literal_leaf (integer v) t e = subst LeafOf e tt
literal_leaf (decimal bytes) t e = subst LeafOf e tt
literal_leaf (string v) t e = subst LeafOf e tt

-- what the ways of reading say is what values are

literal_is : (c : Bool) (d : ℕ) (t : ValueTree) (f : Nested) → Single literal d t f → IsValue c d t f
unfolding IsValue
literal_is c d (variable_value n at) f is = absurd (literal_leaf is.0 _ is.2)
literal_is c d (list_value vs) f is = absurd (literal_leaf is.0 _ is.2)
literal_is c d (object_value fs) f is = absurd (literal_leaf is.0 _ is.2)
literal_is c d (integer_value v) f is = is
literal_is c d (float_value bytes) f is = is
literal_is c d (string_value v) f is = is
literal_is c d (boolean_value b) f is = is
literal_is c d null_value f is = is
literal_is c d (enum_value n at) f is = is

variable_is : (d : ℕ) (t : ValueTree) (f : Nested) → WrittenVariable d t f → IsValue false d t f
unfolding IsValue
variable_is d t f is =
    let q = is.2 in
    let first : q.0 ≡ (punctuator Dollar, d) ∷ [] = q.3.1 ∙ ap (λ (w : Symbol). (w, d) ∷ []) (exact_is Dollar q.3.0 is.0.0 tt q.3.2) in
    let last : q.1 ≡ (identifier is.0.1.0 is.0.1.1, d) ∷ [] = q.4.1 ∙ ap (λ (w : Symbol). (w, d) ∷ []) (name_is q.4.0 is.0.1 q.4.2) in
    subst (λ (t : ValueTree). IsValue false d t f) (sym is.1) (refl, q.2 ∙ (ap (λ (l : Nested). l ++ q.1) first ∙ ap (λ (l : Nested). (punctuator Dollar, d) ∷ l) last))

of_variable : (d : ℕ) (n : List ℕ) (at : ℕ) (f : Nested) → f ≡ (punctuator Dollar, d) ∷ (identifier n at, d) ∷ [] → WrittenVariable d (variable_value n at) f
of_variable d n at f e = ((tt, (n, at)), refl, ((punctuator Dollar, d) ∷ [], (identifier n at, d) ∷ [], e, (punctuator Dollar, refl, refl), (identifier n at, refl, refl)))

simple_is : (c : Bool) (d : ℕ) (t : ValueTree) (f : Nested) → WrittenSimple c d t f → IsValue c d t f
simple_is true d t f is = literal_is true d t f is
simple_is false d t f (inl is) = variable_is d t f is
simple_is false d t f (inr is) = literal_is false d t f is

of_literal : (c : Bool) (d : ℕ) (t : ValueTree) (f : Nested) → Single literal d t f → WrittenSimple c d t f
of_literal true d t f is = is
of_literal false d t f is = inr is

values_are : (c : Bool) (d : ℕ) (vs : List ValueTree) (f : Nested) → Repeated (IsValue c d) vs f → AreValues c d (values_from vs) f
unfolding IsValue
values_are c d [] f is = is
values_are c d (v ∷ vs) f is = (is.0, is.1, is.2, is.3, values_are c d vs is.1 is.4)

of_values : (c : Bool) (d : ℕ) (vs : ValueTrees) (f : Nested) → AreValues c d vs f → (l : List ValueTree) × (vs ≡ values_from l) × Repeated (IsValue c d) l f
unfolding IsValue
of_values c d no_value f is = ([], refl, is)
of_values c d (value_then v vs) f is = let r = of_values c d vs is.1 is.4 in (v ∷ r.0, ap (value_then v) r.1, (is.0, is.1, is.2, is.3, r.2))

field_is : (c : Bool) (d : ℕ) (x : NamedValue) (f : Nested) → WrittenField c d x f → (g : Nested) × (f ≡ (identifier x.0.0 x.0.1, d) ∷ (punctuator Colon, d) ∷ g) × IsValue c d x.1 g
field_is c d x f is =
    let q = is.2 in let r = q.4 in
    let named : q.0 ≡ (identifier is.0.0.0 is.0.0.1, d) ∷ [] = q.3.1 ∙ ap (λ (w : Symbol). (w, d) ∷ []) (name_is q.3.0 is.0.0 q.3.2) in
    let colon : r.0 ≡ (punctuator Colon, d) ∷ [] = r.3.1 ∙ ap (λ (w : Symbol). (w, d) ∷ []) (exact_is Colon r.3.0 is.0.1.0 tt r.3.2) in
    subst (λ (x : NamedValue). (g : Nested) × (f ≡ (identifier x.0.0 x.0.1, d) ∷ (punctuator Colon, d) ∷ g) × IsValue c d x.1 g) (sym is.1)
    (r.1, q.2 ∙ (ap (λ (l : Nested). l ++ q.1) named ∙ ap (λ (l : Nested). (identifier is.0.0.0 is.0.0.1, d) ∷ l) (r.2 ∙ ap (λ (l : Nested). l ++ r.1) colon)), r.4)

pub of_field : (c : Bool) (d : ℕ) (n : List ℕ) (at : ℕ) (t : ValueTree) (f : Nested) → IsValue c d t f → WrittenField c d ((n, at), t) ((identifier n at, d) ∷ (punctuator Colon, d) ∷ f)
of_field c d n at t f is = (((n, at), (tt, t)), refl, ((identifier n at, d) ∷ [], (punctuator Colon, d) ∷ f, refl, (identifier n at, refl, refl), ((punctuator Colon, d) ∷ [], f, refl, (punctuator Colon, refl, refl), is)))

fields_are : (c : Bool) (d : ℕ) (xs : List NamedValue) (f : Nested) → Repeated (WrittenField c d) xs f → AreFields c d (fields_from xs) f
unfolding IsValue
fields_are c d [] f is = is
fields_are c d (x ∷ xs) f is = let n = field_is c d x is.0 is.3 in (n.0, is.1, is.2 ∙ ap (λ (l : Nested). l ++ is.1) n.1, n.2, fields_are c d xs is.1 is.4)

of_fields : (c : Bool) (d : ℕ) (fs : FieldTrees) (f : Nested) → AreFields c d fs f → (l : List NamedValue) × (fs ≡ fields_from l) × Repeated (WrittenField c d) l f
unfolding IsValue
of_fields c d no_field f is = ([], refl, is)
of_fields c d (field_then n at t fs) f is = let r = of_fields c d fs is.1 is.4 in
    (((n, at), t) ∷ r.0, ap (field_then n at t) r.1, ((identifier n at, d) ∷ (punctuator Colon, d) ∷ is.0, is.1, is.2, of_field c d n at t is.0 is.3, r.2))

list_is : (c : Bool) (d : ℕ) (t : ValueTree) (f : Nested) → WrittenList c d t f → IsValue c d t f
unfolding IsValue
list_is c d t f is = let m = from_brackets OpenBracket CloseBracket d (Repeated (IsValue c (suc d))) list_of t f tt tt is in
    subst (λ (t : ValueTree). IsValue c d t f) (sym m.1) (m.2.0, m.2.1, values_are c (suc d) m.0 m.2.0 m.2.2)

object_is : (c : Bool) (d : ℕ) (t : ValueTree) (f : Nested) → WrittenObject c d t f → IsValue c d t f
unfolding IsValue
object_is c d t f is = let m = from_brackets OpenBrace CloseBrace d (Repeated (WrittenField c (suc d))) object_of t f tt tt is in
    subst (λ (t : ValueTree). IsValue c d t f) (sym m.1) (m.2.0, m.2.1, fields_are c (suc d) m.0 m.2.0 m.2.2)

value_is : (c : Bool) (d : ℕ) (t : ValueTree) (f : Nested) → WrittenValue c d t f → IsValue c d t f
value_is c d t f (inl is) = list_is c d t f is
value_is c d t f (inr (inl is)) = object_is c d t f is
value_is c d t f (inr (inr is)) = simple_is c d t f is

of_value : (c : Bool) (d : ℕ) (t : ValueTree) (f : Nested) → IsValue c d t f → WrittenValue c d t f
unfolding IsValue
of_value true d (variable_value n at) f is = absurd (true_not_false is.0)
  where
    true_not_false : true ≡ false → ⊥
    true_not_false e = cc
of_value false d (variable_value n at) f is = inr (inr (inl (of_variable d n at f is.1)))
of_value c d (integer_value v) f is = inr (inr (of_literal c d _ f is))
of_value c d (float_value bytes) f is = inr (inr (of_literal c d _ f is))
of_value c d (string_value v) f is = inr (inr (of_literal c d _ f is))
of_value c d (boolean_value b) f is = inr (inr (of_literal c d _ f is))
of_value c d null_value f is = inr (inr (of_literal c d _ f is))
of_value c d (enum_value n at) f is = inr (inr (of_literal c d _ f is))
of_value c d (list_value vs) f is = let r = of_values c (suc d) vs is.0 is.2 in
    inl (subst (λ (l : ValueTrees). WrittenList c d (list_value l) f) (sym r.1) (to_brackets OpenBracket CloseBracket d (Repeated (IsValue c (suc d))) list_of r.0 f (is.0, is.1, r.2)))
of_value c d (object_value fs) f is = let r = of_fields c (suc d) fs is.0 is.2 in
    inr (inl (subst (λ (l : FieldTrees). WrittenObject c d (object_value l) f) (sym r.1) (to_brackets OpenBrace CloseBrace d (Repeated (WrittenField c (suc d))) object_of r.0 f (is.0, is.1, r.2))))

-- with what values begin

-- what a test says of names, numbers and strings
pub record SaysOfLiterals (b : Bool) (test : Test) : Type 0 where
  pub names : SaysOfNames b test
  pub integers : (v : ℤ) → test (Some (integer v)) ≡ b
  pub floats : (bytes : List ℕ) → test (Some (decimal bytes)) ≡ b
  pub strings : (v : List ℕ) → test (Some (string v)) ≡ b

literal_says : {b : Bool} {test : Test} → SaysOfLiterals b test → (w : Symbol) (t : ValueTree) → literal w ≡ Some t → test (Some w) ≡ b
literal_says s (punctuator k) t e = cc
literal_says s (identifier n at) t e = s.names n at
literal_says s (integer v) t e = s.integers v
literal_says s (decimal bytes) t e = s.floats bytes
literal_says s (string v) t e = s.strings v

heads_literal : {b : Bool} {test : Test} {d : ℕ} → SaysOfLiterals b test → Heads b test (Single literal d)
heads_literal {b = b} {test = test} {d = d} s = heads_single b test literal d (literal_says s)

heads_simple : {b : Bool} {test : Test} (c : Bool) (d : ℕ) → SaysOfLiterals b test → test (Some (punctuator Dollar)) ≡ b → Heads b test (WrittenSimple c d)
heads_simple true d s e = heads_literal s
heads_simple false d s e = heads_choice (heads_image (heads_pair _ (heads_mark Dollar tt e))) (heads_literal s)

-- what a test says of each symbol that begins a value
pub record SaysOfValues (b : Bool) (test : Test) : Type 0 where
  pub literals : SaysOfLiterals b test
  pub dollar : test (Some (punctuator Dollar)) ≡ b
  pub list : test (Some (punctuator OpenBracket)) ≡ b
  pub object : test (Some (punctuator OpenBrace)) ≡ b

heads_written : {b : Bool} {test : Test} (c : Bool) (d : ℕ) → SaysOfValues b test → Heads b test (WrittenValue c d)
heads_written c d s = heads_choice (heads_level _ (exact OpenBracket) (heads_mark OpenBracket tt s.list)) (heads_choice (heads_level _ (exact OpenBrace) (heads_mark OpenBrace tt s.object)) (heads_simple c d s.literals s.dollar))

pub heads_value : {b : Bool} {test : Test} (c : Bool) (d : ℕ) → SaysOfValues b test → Heads b test (IsValue c d)
heads_value c d s = let h = heads_written c d s in record { says = λ a f rest is. h.says a f rest (of_value c d a f is) }

pub value_begins : (c : Bool) (d : ℕ) → Heads true (up_to CloseBracket) (IsValue c d)
value_begins c d = heads_value c d (record { literals = record { names = λ n at. refl; integers = λ v. refl; floats = λ bytes. refl; strings = λ v. refl }; dollar = refl; list = refl; object = refl })

pub field_begins : {b : Bool} {test : Test} (c : Bool) (d : ℕ) → SaysOfNames b test → Heads b test (WrittenField c d)
field_begins c d says = heads_image (heads_pair _ (heads_name says))

-- the laws

simple_law : {d n : ℕ} (c : Bool) → d ≤ n → Law (WrittenSimple c d) n never (simple_at c) (simple_at c)
simple_law true le = single_law literal (string_value []) (string []) refl le
simple_law false le = choice_law (takes_variable false) (image_law variable_of (after (mark_law Dollar le) (name_law le))) (single_law literal (string_value []) (string []) refl le) (λ w e. (refl, refl))
    (heads_image (heads_pair _ (heads_mark Dollar tt refl))) (passes_heads (heads_literal (record { names = λ n at. refl; integers = λ v. refl; floats = λ bytes. refl; strings = λ v. refl })))

with_law : {d n : ℕ} (c : Bool) (list more object more2 : Option (Reader ValueTree)) → d ≤ n → Law (WrittenList c d) n never (level (exact OpenBracket) list) (level (exact OpenBracket) more)
    → Law (WrittenObject c d) n never (level (exact OpenBrace) object) (level (exact OpenBrace) more2) → Law (IsValue c d) n never (value_with c list object) (value_with c more more2)
with_law {d = d} c list more object more2 le l o = as_law (value_is c d) (of_value c d)
    (choice_law (takes (exact OpenBracket)) l (choice_law (takes (exact OpenBrace)) o (simple_law c le) (λ w e. (refl, refl)) (takes_level _ (exact OpenBrace)) (passes_heads (heads_simple c d (record { names = λ n at. refl; integers = λ v. refl; floats = λ bytes. refl; strings = λ v. refl }) refl))) (λ w e. (refl, refl))
    (takes_level _ (exact OpenBracket)) (passes_heads (heads_choice (heads_level _ (exact OpenBrace) (heads_mark OpenBrace tt refl)) (heads_simple c d (record { names = λ n at. refl; integers = λ v. refl; floats = λ bytes. refl; strings = λ v. refl }) refl))))

pub field_law : (c : Bool) (d : ℕ) {n : ℕ} {value more : Reader ValueTree} → d ≤ n → Law (IsValue c d) n never value more → Law (WrittenField c d) n never (named_value_at value) (named_value_at more)
field_law c d le l = image_law named_value_of (after (name_law le) (after (mark_law Colon le) l))

some_list : (c : Bool) (d : ℕ) → (b : ValueTree) × (f : Nested) × Image list_of (Pair (Repeated (IsValue c (suc d))) (Single (exact CloseBracket) (suc d))) b f
some_list c d = (list_value no_value, (punctuator CloseBracket, suc d) ∷ [], (([], tt), refl, ([], (punctuator CloseBracket, suc d) ∷ [], refl, refl, (punctuator CloseBracket, refl, refl))))

some_object : (c : Bool) (d : ℕ) → (b : ValueTree) × (f : Nested) × Image object_of (Pair (Repeated (WrittenField c (suc d))) (Single (exact CloseBrace) (suc d))) b f
some_object c d = (object_value no_field, (punctuator CloseBrace, suc d) ∷ [], (([], tt), refl, ([], (punctuator CloseBrace, suc d) ∷ [], refl, refl, (punctuator CloseBrace, refl, refl))))

-- no level is left
shut_value_law : (c : Bool) (d n : ℕ) (list object : Option (Reader ValueTree)) → d ≡ n → Law (IsValue c d) n never (value_with c None None) (value_with c list object)
shut_value_law c d n list object e = subst (λ n. Law (IsValue c d) n never (value_with c None None) (value_with c list object)) e
    (with_law c None list None object (omega arith) (shut_law (exact OpenBracket) tt (punctuator OpenBracket) refl (some_list c d) list) (shut_law (exact OpenBrace) tt (punctuator OpenBrace) refl (some_object c d) object))

pub value_law : (c : Bool) (left more d n : ℕ) → left ≤ more → n ≡ d + left → Law (IsValue c d) n never (value_at c left) (value_at c more)
unfolding value_at
value_law c zero zero d n le e = shut_value_law c d n None None (omega (arith, e))
value_law c zero (suc more) d n le e = shut_value_law c d n (Some (in_list (value_at c more))) (Some (in_object (value_at c more))) (omega (arith, e))
value_law c (suc left) zero d n le e = absurd (omega arith)
value_law c (suc left) (suc more) d n le e =
    let in_level : suc d ≤ n = omega (arith, e) in
    let l = value_law c left more (suc d) n (omega arith) (omega (arith, e)) in
    with_law c (Some (in_list (value_at c left))) (Some (in_list (value_at c more))) (Some (in_object (value_at c left))) (Some (in_object (value_at c more))) (omega (arith, e))
    (open_law (exact OpenBracket) tt (punctuator OpenBracket) refl in_level (closed_law CloseBracket list_of in_level l (value_begins c (suc d))))
    (open_law (exact OpenBrace) tt (punctuator OpenBrace) refl in_level (closed_law CloseBrace object_of in_level (field_law c (suc d) in_level l) (field_begins c (suc d) (λ n at. refl))))

pub value_family : (c : Bool) → Family (IsValue c 0) never (value_at c)
value_family c = record { law = λ n more le. value_law c n more 0 n le (omega arith); at_end = refl }

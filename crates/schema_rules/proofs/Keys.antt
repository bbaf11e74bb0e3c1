-- The key of a thing tells its scope and its name, where names hold no mark.
use Rattle.std.proofs.Common.{ℕ, ◌≡◌, ◌↔◌, ◌==◌, Bool, true, false, true≢false, ◌&&◌, if◌then◌else◌, List, [], ◌∷◌, ◌++◌, length, codes, refl, sym, ap, ap₂, ◌∙◌, arith, append_assoc, append-nil}
use Rattle.std.proofs.lemmas.Bool.{and_parts}
use Rattle.gql_base.specs.lexical.Characters.{is_name_continue}
use Rattle.gql_base.specs.declared.parts.trees.OperationKind.{OperationKind}
use Rattle.gql_base.specs.declared.parts.trees.OperationKind.TheVariants.{Query, Mutation, Subscription}
use Rattle.schema_reader.specs.Schemas.{NameText}
use Rattle.schema_rules.specs.Items.{ItemTree, schema_item, root_item, type_item, interface_item, member_item, field_item, argument_item, field_type_item, enum_value_item, input_field_item, directive_item, directive_argument_item, input_name}
use Rattle.schema_rules.specs.Repeated.{kind_key, key_of}
use Rattle.schema_rules.specs.Scopes.{Scope, schema_definitions, root_operations, all_types, all_directives, interfaces_of, members_of, fields_of, field_types_of, arguments_of, directive_arguments_of, kind_word, scope_of, own_name, HaveOneName, is_named, has_names}

-- ---- names with marks between them

-- a first name, and further ones each behind its mark
abbrev Marks : Type 0
Marks = List (ℕ × NameText)

pub record Marked : Type 0 where
  pub first : NameText
  pub others : Marks

abbrev marks_text : Marks → List ℕ
marks_text [] = []
marks_text (m ∷ ms) = m.0 ∷ (m.1 ++ marks_text ms)

abbrev marked_text : Marked → List ℕ
marked_text k = k.first ++ marks_text k.others

-- marks are no bytes of names
abbrev AreMarks : Marks → Type 0
AreMarks [] = Unit {0}
AreMarks (m ∷ ms) = (is_name_continue m.0 ≡ false) × (is_named m.1 ≡ true) × AreMarks ms

-- no name goes on there
abbrev Ends : List ℕ → Type 0
Ends [] = Unit {0}
Ends (c ∷ cs) = is_name_continue c ≡ false

ends : (ms : Marks) → AreMarks ms → Ends (marks_text ms)
ends [] are = tt
ends (m ∷ ms) are = are.0

-- ---- they are told by their text

abbrev head_or : List ℕ → ℕ → ℕ
head_or [] d = d
head_or (c ∷ cs) d = c

abbrev tail_of : List ℕ → List ℕ
tail_of [] = []
tail_of (c ∷ cs) = cs

cut : (m n r s : List ℕ) → is_named m ≡ true → is_named n ≡ true → Ends r → Ends s → m ++ r ≡ n ++ s → (m ≡ n) × (r ≡ s)
cut [] [] r s p q f g e = (refl, e)
cut [] (c ∷ n) [] s p q f g e = absurd (let l = ap length e in omega (arith, l))
cut [] (c ∷ n) (x ∷ r) s p q f g e =
    let same : x ≡ c = ap (λ l. head_or l 0) e in
    absurd (true≢false (sym (and_parts (is_name_continue c) (is_named n) q).0 ∙ (ap is_name_continue (sym same) ∙ f)))
cut (c ∷ m) [] r [] p q f g e = absurd (let l = ap length e in omega (arith, l))
cut (c ∷ m) [] r (x ∷ s) p q f g e =
    let same : c ≡ x = ap (λ l. head_or l 0) e in
    absurd (true≢false (sym (and_parts (is_name_continue c) (is_named m) p).0 ∙ (ap is_name_continue same ∙ g)))
cut (c ∷ m) (d ∷ n) r s p q f g e =
    let behind = cut m n r s (and_parts (is_name_continue c) (is_named m) p).1 (and_parts (is_name_continue d) (is_named n) q).1 f g (ap tail_of e) in
    (ap₂ (λ x xs. x ∷ xs) (ap (λ l. head_or l 0) e) behind.0, behind.1)

one_marks : (ms ns : Marks) → AreMarks ms → AreMarks ns → marks_text ms ≡ marks_text ns → ms ≡ ns
one_marks [] [] a b e = refl
one_marks [] (n ∷ ns) a b e = absurd (let l = ap length e in omega (arith, l))
one_marks (m ∷ ms) [] a b e = absurd (let l = ap length e in omega (arith, l))
one_marks (m ∷ ms) (n ∷ ns) a b e =
    let parts = cut m.1 n.1 (marks_text ms) (marks_text ns) a.1 b.1 (ends ms a.2) (ends ns b.2) (ap tail_of e) in
    ap₂ (λ (x : ℕ × NameText) (xs : Marks). x ∷ xs) (ap₂ (λ (k : ℕ) (t : NameText). (k, t)) (ap (λ l. head_or l 0) e) parts.0) (one_marks ms ns a.2 b.2 parts.1)

one_marked : (a b : Marked) → is_named a.first ≡ true → is_named b.first ≡ true → AreMarks a.others → AreMarks b.others → marked_text a ≡ marked_text b → a ≡ b
one_marked a b p q f g e =
    let parts = cut a.first b.first (marks_text a.others) (marks_text b.others) p q (ends a.others f) (ends b.others g) e in
    ap₂ (λ (x : NameText) (xs : Marks). record { first = x; others = xs }) parts.0 (one_marks a.others b.others f g parts.1)

-- ---- a scope and a name, with marks

abbrev with_marks : Scope → NameText → Marked
with_marks schema_definitions name = record { first = []; others = (32, codes "schema") ∷ [] }
with_marks root_operations name = record { first = codes "schema"; others = (32, name) ∷ [] }
with_marks all_types name = record { first = name; others = [] }
with_marks all_directives name = record { first = []; others = (64, name) ∷ [] }
with_marks (interfaces_of type) name = record { first = type; others = (38, name) ∷ [] }
with_marks (members_of type) name = record { first = type; others = (124, name) ∷ [] }
with_marks (fields_of type) name = record { first = type; others = (46, name) ∷ [] }
with_marks (field_types_of type) name = record { first = type; others = (46, name) ∷ (58, []) ∷ [] }
with_marks (arguments_of type field) name = record { first = type; others = (46, field) ∷ (40, name) ∷ (41, []) ∷ [] }
with_marks (directive_arguments_of directive) name = record { first = []; others = (64, directive) ∷ (40, name) ∷ (41, []) ∷ [] }

abbrev marked_key : ItemTree → Marked
marked_key i = with_marks (scope_of i) (own_name i)

abbrev is_none : List ℕ → Bool
is_none [] = true
is_none (c ∷ cs) = false

-- what a first name and a mark say of the name behind
abbrev behind_one : NameText → ℕ → NameText → Scope × NameText
behind_one first mark name =
    if mark == 32 then (if is_none first then (schema_definitions, []) else (root_operations, name))
    else if mark == 64 then (all_directives, name)
    else if mark == 38 then (interfaces_of first, name)
    else if mark == 124 then (members_of first, name)
    else (fields_of first, name)

abbrev read_marks : NameText → Marks → Scope × NameText
read_marks first [] = (all_types, first)
read_marks first (m ∷ []) = behind_one first m.0 m.1
read_marks first (m ∷ (n ∷ [])) = (field_types_of first, m.1)
read_marks first (m ∷ (n ∷ (o ∷ more))) = if m.0 == 64 then (directive_arguments_of m.1, n.1) else (arguments_of first m.1, n.1)

abbrev read_key : Marked → Scope × NameText
read_key k = read_marks k.first k.others

key_read : (i : ItemTree) → read_key (marked_key i) ≡ (scope_of i, own_name i)
key_read (schema_item directives) = refl
key_read (root_item kind name) = refl
key_read (type_item name kind is_empty directives) = refl
key_read (interface_item of name) = refl
key_read (member_item of name) = refl
key_read (field_item of name) = refl
key_read (argument_item of field input) = refl
key_read (field_type_item of name type directives) = refl
key_read (enum_value_item of name directives) = refl
key_read (input_field_item of input) = refl
key_read (directive_item name) = refl
key_read (directive_argument_item directive input) = refl

-- ---- its text is the key

kind_text : (kind : OperationKind) → codes "schema" ++ (32 ∷ (kind_word kind ++ [])) ≡ kind_key kind
kind_text Query = refl
kind_text Mutation = refl
kind_text Subscription = refl

one_mark : (of name : NameText) (mark : ℕ) → of ++ (mark ∷ (name ++ [])) ≡ of ++ (mark ∷ name)
one_mark of name mark = ap (λ l. of ++ (mark ∷ l)) (append-nil name)

with_argument_text : (of field name : NameText) → of ++ (46 ∷ (field ++ (40 ∷ (name ++ (41 ∷ []))))) ≡ (of ++ (46 ∷ field)) ++ (40 ∷ (name ++ (41 ∷ [])))
with_argument_text of field name = sym (append_assoc of (46 ∷ field) (40 ∷ (name ++ (41 ∷ []))))

key_text : (i : ItemTree) → marked_text (marked_key i) ≡ key_of i
key_text (schema_item directives) = refl
key_text (root_item kind name) = kind_text kind
key_text (type_item name kind is_empty directives) = append-nil name
key_text (interface_item of name) = one_mark of name 38
key_text (member_item of name) = one_mark of name 124
key_text (field_item of name) = one_mark of name 46
key_text (argument_item of field input) = with_argument_text of field (input_name input)
key_text (field_type_item of name type directives) = sym (append_assoc of (46 ∷ name) (58 ∷ []))
key_text (enum_value_item of name directives) = one_mark of (name) 46
key_text (input_field_item of input) = one_mark of (input_name input) 46
key_text (directive_item name) = one_mark [] name 64
key_text (directive_argument_item directive input) = refl

-- ---- its parts are names and marks

abbrev IsWell : Marked → Type 0
IsWell k = (is_named k.first ≡ true) × AreMarks k.others

kind_named : (kind : OperationKind) → is_named (kind_word kind) ≡ true
kind_named Query = refl
kind_named Mutation = refl
kind_named Subscription = refl

well_one : (of name : NameText) (mark : ℕ) → is_name_continue mark ≡ false → (is_named of && is_named name) ≡ true → IsWell (record { first = of; others = (mark, name) ∷ [] })
well_one of name mark other are = let parts = and_parts (is_named of) (is_named name) are in (parts.0, (other, parts.1, tt))

well : (i : ItemTree) → has_names i ≡ true → IsWell (marked_key i)
well (schema_item directives) are = (refl, (refl, refl, tt))
well (root_item kind name) are = (refl, (refl, kind_named kind, tt))
well (type_item name kind is_empty directives) are = (are, tt)
well (interface_item of name) are = well_one of name 38 refl are
well (member_item of name) are = well_one of name 124 refl are
well (field_item of name) are = well_one of name 46 refl are
well (argument_item of field input) are =
    let parts = and_parts (is_named of) (is_named field && is_named (input_name input)) are in
    let inner = and_parts (is_named field) (is_named (input_name input)) parts.1 in
    (parts.0, (refl, inner.0, (refl, inner.1, (refl, refl, tt))))
well (field_type_item of name type directives) are = let parts = and_parts (is_named of) (is_named name) are in (parts.0, (refl, parts.1, (refl, refl, tt)))
well (enum_value_item of name directives) are = well_one of name 46 refl are
well (input_field_item of input) are = well_one of (input_name input) 46 refl are
well (directive_item name) are = (refl, (refl, are, tt))
well (directive_argument_item directive input) are =
    let parts = and_parts (is_named directive) (is_named (input_name input)) are in
    (refl, (refl, parts.0, (refl, parts.1, (refl, refl, tt))))

pub one_name : (one other : ItemTree) → has_names one ≡ true → has_names other ≡ true → (key_of one ≡ key_of other) ↔ HaveOneName one other
one_name one other of_one of_other = (
  λ e.
      let a = well one of_one in
      let b = well other of_other in
      let same = one_marked (marked_key one) (marked_key other) a.0 b.0 a.1 b.1 (key_text one ∙ (e ∙ sym (key_text other))) in
      let told = sym (key_read one) ∙ (ap read_key same ∙ key_read other) in
      (ap (λ p. p.0) told, ap (λ p. p.1) told),
  λ same. sym (key_text one) ∙ (ap₂ (λ s n. marked_text (with_marks s n)) same.0 same.1 ∙ key_text other),
)

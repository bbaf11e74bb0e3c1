-- What classes tell of the names at the root, and of which operations they are.
use Rattle.std.proofs.Common.{◌≡◌, ◌⊎◌, inl, inr, ◌∙◌, ℕ, Bool, true, false, ◌||◌, ◌&&◌, not, List, [], ◌∷◌, ◌++◌, Option, None, Some, refl, sym, ap, subst}
use Rattle.std.specs.Prelude.{◌≢◌, codes, if◌then◌else◌}
use Rattle.std.specs.List.{AllByRecursion}
use Rattle.std.specs.Str.{bytes_eq}
use Rattle.std.specs.Bool.{Decides}
use Rattle.std.proofs.lemmas.Bool.{cases_Bool, true≢false, not-true, not-false, not_from_true, not_from_false}
use Rattle.std.proofs.Math.Bool.{or-true}
use Rattle.std.proofs.lemmas.Slice.Eq.{bytes_eq-Decides}
use Rattle.gql_base.specs.ways.Reading.{Identifier}
use Rattle.gql_base.specs.declared.parts.trees.OperationKind.{OperationKind}
use Rattle.gql_base.specs.declared.parts.trees.OperationKind.TheVariants.{Query, Mutation, Subscription}
use Rattle.document_reader.specs.declared.trees.Definition.{Definition}
use Rattle.document_reader.specs.declared.trees.Operation.{Operation}
use Rattle.document_rules.specs.Parts.{operation_at}
use Rattle.document_rules.specs.Sites.{typename}
use Rattle.operation_class.specs.declared.classes.Class.{Class}
use Rattle.operation_class.specs.declared.classes.Class.TheVariants.{Upstream, Local, Mixed}
use Rattle.operation_class.specs.Classes.{is_meta_field, is_further_field, has_meta_field, first_further_field, local_but_for, class_by_fields, class_of_kind, class_there, class_at, root_names}
use Rattle.operation_class.specs.ToldNames.{IsQueryAt, AsksForSchema, MayStandBeside, OneOf, Tells}

-- ---- a name

either : (a b : Bool) (P Q : Type 0) → Decides a P → Decides b Q → Decides (a || b) (P ⊎ Q)
either true b P Q of_a of_b = (λ is. inl (of_a.0 refl), λ some. refl)
either false b P Q of_a of_b = (λ is. inr (of_b.0 is), by_side)
  where
    by_side : P ⊎ Q → b ≡ true
    by_side (inl p) = absurd (true≢false (sym (of_a.1 p)))
    by_side (inr q) = of_b.1 q

asks_decided : (name : Identifier) → Decides (is_meta_field name.0) (AsksForSchema name)
asks_decided name = either (bytes_eq name.0 (codes "__schema")) (bytes_eq name.0 (codes "__type")) (name.0 ≡ codes "__schema") (name.0 ≡ codes "__type") (bytes_eq-Decides name.0 (codes "__schema")) (bytes_eq-Decides name.0 (codes "__type"))

stands_decided : (name : Identifier) → Decides (is_meta_field name.0 || bytes_eq name.0 typename) (MayStandBeside name)
stands_decided name = either (is_meta_field name.0) (bytes_eq name.0 typename) (AsksForSchema name) (name.0 ≡ typename) (asks_decided name) (bytes_eq-Decides name.0 typename)

neither_is : (a b : Bool) → (not a && not b) ≡ not (a || b)
neither_is true b = refl
neither_is false b = refl

further_is : (name : Identifier) → is_further_field name.0 ≡ not (is_meta_field name.0 || bytes_eq name.0 typename)
further_is name = neither_is (is_meta_field name.0) (bytes_eq name.0 typename)

decided_not : (b : Bool) (P : Type 0) → Decides b P → b ≡ false → P → ⊥
decided_not b P decided is p = true≢false (sym (decided.1 p) ∙ is)

not_decided : (b : Bool) (P : Type 0) → Decides b P → (P → ⊥) → b ≡ false
not_decided true P decided never = absurd (never (decided.0 refl))
not_decided false P decided never = refl

stands : (name : Identifier) → is_further_field name.0 ≡ false → MayStandBeside name
stands name is = (stands_decided name).0 (not-false (is_meta_field name.0 || bytes_eq name.0 typename) (sym (further_is name) ∙ is))

stands_not : (name : Identifier) → is_further_field name.0 ≡ true → MayStandBeside name → ⊥
stands_not name is = decided_not (is_meta_field name.0 || bytes_eq name.0 typename) (MayStandBeside name) (stands_decided name) (not-true (is_meta_field name.0 || bytes_eq name.0 typename) (sym (further_is name) ∙ is))

no_further : (name : Identifier) → MayStandBeside name → is_further_field name.0 ≡ false
no_further name may = further_is name ∙ not_from_true (is_meta_field name.0 || bytes_eq name.0 typename) ((stands_decided name).1 may)

further : (name : Identifier) → (MayStandBeside name → ⊥) → is_further_field name.0 ≡ true
further name never = further_is name ∙ not_from_false (is_meta_field name.0 || bytes_eq name.0 typename) (not_decided (is_meta_field name.0 || bytes_eq name.0 typename) (MayStandBeside name) (stands_decided name) never)

-- ---- one of the names

abbrev first_of : (name : Identifier) (names : List Identifier) → OneOf (name ∷ names)
first_of name names = record { before = []; name = name; behind = names; are = refl }

abbrev later_of : (name : Identifier) (names : List Identifier) → OneOf names → OneOf (name ∷ names)
later_of name names x = record { before = name ∷ x.before; name = x.name; behind = x.behind; are = ap (λ ns. name ∷ ns) x.are }

-- ---- fields that ask for the schema

none_asks : (names : List Identifier) → has_meta_field names ≡ false → AllByRecursion (λ name. AsksForSchema name → ⊥) names
none_asks [] none = tt
none_asks (name ∷ names) none = elim (cases_Bool (is_meta_field name.0)) [
  | inl is ↦ absurd (true≢false (sym (ap (λ b. b || has_meta_field names) is) ∙ none))
  | inr is ↦ (decided_not (is_meta_field name.0) (AsksForSchema name) (asks_decided name) is, none_asks names (sym (ap (λ b. b || has_meta_field names) is) ∙ none))
]

one_asks : (names : List Identifier) → has_meta_field names ≡ true → (x : OneOf names) × AsksForSchema x.name
one_asks [] some = absurd (true≢false (sym some))
one_asks (name ∷ names) some = elim (cases_Bool (is_meta_field name.0)) [
  | inl is ↦ (first_of name names, (asks_decided name).0 is)
  | inr is ↦ let later = one_asks names (sym (ap (λ b. b || has_meta_field names) is) ∙ some) in (later_of name names later.0, later.1)
]

no_meta : (names : List Identifier) → AllByRecursion (λ name. AsksForSchema name → ⊥) names → has_meta_field names ≡ false
no_meta [] never = refl
no_meta (name ∷ names) never = ap (λ b. b || has_meta_field names) (not_decided (is_meta_field name.0) (AsksForSchema name) (asks_decided name) never.0) ∙ no_meta names never.1

meta_behind : (before : List Identifier) (name : Identifier) (behind : List Identifier) → AsksForSchema name → has_meta_field (before ++ (name ∷ behind)) ≡ true
meta_behind [] name behind asks = ap (λ b. b || has_meta_field behind) ((asks_decided name).1 asks)
meta_behind (other ∷ before) name behind asks = ap (λ b. is_meta_field other.0 || b) (meta_behind before name behind asks) ∙ or-true (is_meta_field other.0)

some_meta : (names : List Identifier) (x : OneOf names) → AsksForSchema x.name → has_meta_field names ≡ true
some_meta names x asks = ap has_meta_field x.are ∙ meta_behind x.before x.name x.behind asks

-- ---- the first field that may not stand beside them

abbrev If : Bool → ℕ → Option ℕ → Option ℕ
If true at later = Some at
If false at later = later

first_is : (name : Identifier) (names : List Identifier) → first_further_field (name ∷ names) ≡ If (is_further_field name.0) name.1 (first_further_field names)
first_is name names = by_test (is_further_field name.0)
  where
    by_test : (b : Bool) → (if b then Some name.1 else first_further_field names) ≡ If b name.1 (first_further_field names)
    by_test true = refl
    by_test false = refl

is_first : (name : Identifier) (names : List Identifier) → is_further_field name.0 ≡ true → first_further_field (name ∷ names) ≡ Some name.1
is_first name names is = first_is name names ∙ ap (λ b. If b name.1 (first_further_field names)) is

is_later : (name : Identifier) (names : List Identifier) → is_further_field name.0 ≡ false → first_further_field (name ∷ names) ≡ first_further_field names
is_later name names is = first_is name names ∙ ap (λ b. If b name.1 (first_further_field names)) is

all_stand : (names : List Identifier) → first_further_field names ≡ None → AllByRecursion MayStandBeside names
all_stand [] none = tt
all_stand (name ∷ names) none = elim (cases_Bool (is_further_field name.0)) [
  | inl is ↦ absurd (apart (sym (is_first name names is) ∙ none))
  | inr is ↦ (stands name is, all_stand names (sym (is_later name names is) ∙ none))
]
  where
    apart : Some name.1 ≡ None → ⊥
    apart same = absurd (cc)

pub record IsFirstAt (names : List Identifier) (at : ℕ) : Type 0 where
  pub one : OneOf names
  pub before : AllByRecursion MayStandBeside one.before
  pub never : MayStandBeside one.name → ⊥
  pub there : one.name.1 ≡ at

some_at : (a b : ℕ) → Some a ≡ Some b → a ≡ b
some_at a b same = cc

first_at : (names : List Identifier) (at : ℕ) → first_further_field names ≡ Some at → IsFirstAt names at
first_at [] at some = absurd (cc)
first_at (name ∷ names) at some = elim (cases_Bool (is_further_field name.0)) [
  | inl is ↦ record { one = first_of name names; before = tt; never = stands_not name is; there = some_at name.1 at (sym (is_first name names is) ∙ some) }
  | inr is ↦
      let later = first_at names at (sym (is_later name names is) ∙ some) in
      record { one = later_of name names later.one; before = (stands name is, later.before); never = later.never; there = later.there }
]

none_further : (names : List Identifier) → AllByRecursion MayStandBeside names → first_further_field names ≡ None
none_further [] all = refl
none_further (name ∷ names) all = is_later name names (no_further name all.0) ∙ none_further names all.1

further_behind : (before : List Identifier) (name : Identifier) (behind : List Identifier) → AllByRecursion MayStandBeside before → (MayStandBeside name → ⊥) → first_further_field (before ++ (name ∷ behind)) ≡ Some name.1
further_behind [] name behind all never = is_first name behind (further name never)
further_behind (other ∷ before) name behind all never = is_later other (before ++ (name ∷ behind)) (no_further other all.0) ∙ further_behind before name behind all.1 never

-- ---- the class by the names

by_meta : (names : List Identifier) → has_meta_field names ≡ true → class_by_fields names ≡ local_but_for (first_further_field names)
by_meta names is = ap (λ b. if b then local_but_for (first_further_field names) else Upstream) is

without_meta : (names : List Identifier) → has_meta_field names ≡ false → class_by_fields names ≡ Upstream
without_meta names is = ap (λ b. if b then local_but_for (first_further_field names) else Upstream) is

beside : (names : List Identifier) → ((x : OneOf names) × AsksForSchema x.name) → (further : Option ℕ) → first_further_field names ≡ further → Tells names (local_but_for further)
beside names asks None is = (asks, all_stand names is)
beside names asks (Some at) is = let x = first_at names at is in (asks, x.one, x.before, x.never, x.there)

tells : (names : List Identifier) → Tells names (class_by_fields names)
tells names = elim (cases_Bool (has_meta_field names)) [
  | inl is ↦ subst (Tells names) (sym (by_meta names is)) (beside names (one_asks names is) (first_further_field names) refl)
  | inr is ↦ subst (Tells names) (sym (without_meta names is)) (none_asks names is)
]

only_one : (names : List Identifier) (c : Class) → Tells names c → class_by_fields names ≡ c
only_one names Upstream never = without_meta names (no_meta names never)
only_one names Local (asks, all) = by_meta names (some_meta names asks.0 asks.1) ∙ ap local_but_for (none_further names all)
only_one names (Mixed at) (asks, x, before, never, there) =
    by_meta names (some_meta names asks.0 asks.1)
    ∙ ap local_but_for (ap first_further_field x.are ∙ further_behind x.before x.name x.behind before never ∙ ap (λ (n : ℕ). Some n) there)

-- ---- the class of an operation

pub one_of_three : (c : Class) → (c ≡ Upstream) ⊎ (c ≡ Local) ⊎ ((at : ℕ) × (c ≡ Mixed at))
one_of_three Upstream = inl refl
one_of_three Local = inr (inl refl)
one_of_three (Mixed at) = inr (inr (at, refl))

pub no_operation : (ds : List Definition) (place : ℕ) → operation_at ds place ≡ None → class_at ds place ≡ Upstream
no_operation ds place none = ap (class_there ds) none

other_kind : (kind : OperationKind) (c : Class) → kind ≢ Query → class_of_kind kind c ≡ Upstream
other_kind Query c other = absurd (other refl)
other_kind Mutation c other = refl
other_kind Subscription c other = refl

pub no_query : (ds : List Definition) (place : ℕ) (o : Operation) → operation_at ds place ≡ Some o → o.kind ≢ Query → class_at ds place ≡ Upstream
no_query ds place o there other = ap (class_there ds) there ∙ other_kind o.kind _ other

class_of_query : (ds : List Definition) (place : ℕ) (o : Operation) → operation_at ds place ≡ Some o → o.kind ≡ Query → class_at ds place ≡ class_by_fields (root_names ds o)
class_of_query ds place o there query = ap (class_there ds) there ∙ ap (λ kind. class_of_kind kind (class_by_fields (root_names ds o))) query

pub tells_names : (ds : List Definition) (place : ℕ) (o : Operation) → IsQueryAt ds place o → Tells (root_names ds o) (class_at ds place)
tells_names ds place o there = subst (Tells (root_names ds o)) (sym (class_of_query ds place o there.0 there.1)) (tells (root_names ds o))

pub told_class : (ds : List Definition) (place : ℕ) (o : Operation) (c : Class) → IsQueryAt ds place o → Tells (root_names ds o) c → class_at ds place ≡ c
told_class ds place o c there told = class_of_query ds place o there.0 there.1 ∙ only_one (root_names ds o) c told

-- Things that are seen as others, and arguments and their names.
use Rattle.std.proofs.Common.{◌≡◌, ◌+◌, ◌<◌, ◌≤◌, arith, get_or, ℕ, zero, suc, Bool, List, [], ◌∷◌, map, find, length, Option, None, Some, inl, inr, refl, sym, ap, ◌∙◌}
use Rattle.std.specs.Prelude.{option_map, option_copied}
use Rattle.std.specs.Borrow.{Bor}
use Rattle.std.specs.List.{list_any, filter, position_from}
use Rattle.std.proofs.lemmas.Bool.{cases_Bool}
use Rattle.gql_base.proofs.PrintingLaws.PrintSteps.{open_argument}
use Rattle.gql_base.specs.declared.parts.trees.Argument.{Argument}
use Rattle.gql_base.specs.parts.Trees.{value_tree, named_value}
use Rattle.gql_base.specs.parts.Values.{NamedValue}
use Rattle.schema_rules.specs.DirectiveUses.{argument_name}
use Rattle.schema_rules.specs.declared.items.Item.{Item}
use Rattle.schema_rules.specs.Items.{place_of}
use Rattle.schema_rules.specs.Views.{item_tree}
use Rattle.schema_rules.specs.Repeated.{place_at}

pub argument_text : (a : Argument) → argument_name (named_value a) ≡ a.name.text
argument_text a = ap argument_name (open_argument a)

pub argument_value : (a : Argument) → (named_value a).1 ≡ value_tree a.value
argument_value a = ap (λ (v : NamedValue). v.1) (open_argument a)

pub ruleset opened_arguments = (open_argument, argument_text, argument_value)

pub find_view : {A B : Type 0} (view : B → A) (test : A → Bool) (all : List B) → option_map view (find (λ b. test (view b)) all) ≡ find test (map view all)
find_view view test [] = refl
find_view view test (b ∷ all) = elim (cases_Bool (test (view b))) [
  | inl t ↦ rw t refl
  | inr t ↦ rw t (find_view view test all)
]

pub any_view : {A B : Type 0} (view : B → A) (test : A → Bool) (all : List B) → list_any (λ b. test (view b)) all ≡ list_any test (map view all)
any_view view test [] = refl
any_view view test (b ∷ all) = elim (cases_Bool (test (view b))) [
  | inl t ↦ rw t refl
  | inr t ↦ rw t (any_view view test all)
]

pub count_view : {A B : Type 0} (view : B → A) (test : A → Bool) (all : List B) → length (filter (λ b. test (view b)) all) ≡ length (filter test (map view all))
count_view view test [] = refl
count_view view test (b ∷ all) = elim (cases_Bool (test (view b))) [
  | inl t ↦ rw t (ap suc (count_view view test all))
  | inr t ↦ rw t (count_view view test all)
]

pub position_view : {A B : Type 0} (view : B → A) (test : A → Bool) (k : ℕ) (all : List B) → position_from (λ b. test (view b)) k all ≡ position_from test k (map view all)
position_view view test k [] = refl
position_view view test k (b ∷ all) = elim (cases_Bool (test (view b))) [
  | inl t ↦ rw t refl
  | inr t ↦ rw t (position_view view test (k + 1) all)
]

pub seen_some : {A B : Type 0} (view : B → A) (test : A → Bool) (all : List B) (r : Option (Bor B)) (b : Bor B) → option_copied r ≡ find (λ x. test (view x)) all → r ≡ Some b → find test (map view all) ≡ Some (view b.now)
seen_some view test all r b e is = sym (find_view view test all) ∙ ap (option_map view) (sym e ∙ ap option_copied is)

pub seen_none : {A B : Type 0} (view : B → A) (test : A → Bool) (all : List B) (r : Option (Bor B)) → option_copied r ≡ find (λ x. test (view x)) all → r ≡ None → find test (map view all) ≡ None
seen_none view test all r e is = sym (find_view view test all) ∙ ap (option_map view) (sym e ∙ ap option_copied is)

-- what stands at a place of a list
pub placed : (items : List Item) (n : ℕ) (item : Item) → n < length items → item ≡ get_or items n item → place_at (map item_tree items) (Some n) ≡ Some (place_of (item_tree item))
placed [] n item h e = absurd (omega (arith, h))
placed (x ∷ items) zero item h e = ap (λ i. Some (place_of (item_tree i))) (sym e)
placed (x ∷ items) (suc n) item h e = placed items n item (omega arith) e

pub unplaced : (items : List Item) (n : ℕ) → length items ≤ n → place_at (map item_tree items) (Some n) ≡ None
unplaced [] n h = refl
unplaced (x ∷ items) zero h = absurd (omega (arith, h))
unplaced (x ∷ items) (suc n) h = unplaced items n (omega arith)

pub ruleset placements = (placed, unplaced)

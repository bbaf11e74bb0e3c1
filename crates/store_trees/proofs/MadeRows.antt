-- The rows that a making puts can be stored, and the list of the tables is one that SQLite loads.
use Rattle.std.proofs.Common.{◌≡◌, ℕ, pos, ◌+◌, ◌<◌, ◌≤◌, true, false, codes, List, [], ◌∷◌, length, take, refl, sym, ap, subst, ◌∙◌, inl, inr, ◌⊎◌, arith}
use Rattle.std.specs.Float.{NotNan}
use Rattle.std.specs.Float.Ieee
use lib.Ieee.{is_nan}
use Rattle.std.proofs.lemmas.Bool.{leb-true}
use Rattle.std.proofs.lemmas.List.Elements.{All-from_recursion}
use Rattle.std.proofs.lemmas.List.Sums.{sum_by-cons}
use Rattle.std.proofs.lemmas.Nat.Bits.{bit_at-zero}
use Rattle.sqlite_value.specs.declared.value.Value.TheVariants.{Int, Text}
use Rattle.sqlite_value.specs.Order.{Row, number, value_cmp}
use Rattle.sqlite_trees.specs.declared.schema.Object.{Object}
use Rattle.sqlite_trees.specs.Objects.{catalog_tree, object_row}
use Rattle.sqlite_trees.specs.Sound.{same_name, begins, is_free_name, fits_kind, may_follow, is_sound_list}
use Rattle.sqlite_trees.specs.Tree.{put_row}
use Rattle.sqlite_trees.specs.View.{View, IsStorable, IsStorableRow}
use Rattle.store_trees.specs.Tables.{meta_entry}
use Rattle.store_trees.specs.Making.{meta_text, client_text, account_text, grant_text, catalog_row, catalog_rows, IsMaking}
use Rattle.store_trees.proofs.Tablings.{four_cases, next_row}

listing_storable : (id : ℕ) (name text : List ℕ) → length name ≤ 100 → length text ≤ 1000
    → IsStorable 0 (Int (pos id) ∷ Text (codes "table") ∷ Text name ∷ Text name ∷ Text text ∷ Int (pos 1) ∷ Int (pos 0) ∷ [])
unfolding is_nan
listing_storable id name text few short = record {
  typed = λ c set. absurd (omega (arith, bit_at-zero c));
  columns = omega arith;
  numbers = All-from_recursion (λ v. NotNan (number v)) (Int (pos id) ∷ Text (codes "table") ∷ Text name ∷ Text name ∷ Text text ∷ Int (pos 1) ∷ Int (pos 0) ∷ []) (tt, (tt, (tt, (tt, (tt, (tt, (tt, tt)))))));
  short = simp sum_by-cons (omega (arith, few, short));
}

row_storable : (tree : ℕ) → tree < 4 → IsStorable 0 (catalog_row tree)
row_storable = four_cases (λ t. IsStorable 0 (catalog_row t))
    (listing_storable 1 (codes "meta") meta_text (leb-true (length (codes "meta")) 100 refl) (leb-true (length meta_text) 1000 refl))
    (listing_storable 2 (codes "client") client_text (leb-true (length (codes "client")) 100 refl) (leb-true (length client_text) 1000 refl))
    (listing_storable 3 (codes "account") account_text (leb-true (length (codes "account")) 100 refl) (leb-true (length account_text) 1000 refl))
    (listing_storable 4 (codes "open_grant") grant_text (leb-true (length (codes "open_grant")) 100 refl) (leb-true (length grant_text) 1000 refl))

pub meta_storable : (id value : ℕ) → IsStorableRow 0 (meta_entry id value)
unfolding is_nan
meta_storable id value = (
  record {
    typed = λ c set. absurd (omega (arith, bit_at-zero c));
    columns = omega arith;
    numbers = All-from_recursion (λ v. NotNan (number v)) (meta_entry id value) (tt, (tt, (tt, tt)));
    short = simp sum_by-cons (omega arith);
  },
  omega arith,
)

rows_sound : (tree : ℕ) → tree < 4 → is_sound_list (take (tree + 1) catalog_rows) ≡ true
unfolding is_sound_list same_name begins is_free_name fits_kind may_follow value_cmp Ieee.lt Ieee.is_nan
rows_sound = four_cases (λ t. is_sound_list (take (t + 1) catalog_rows) ≡ true) refl refl refl refl

-- so no table is refused for its row
pub is_listed_well : (v : View) (tree : ℕ) (o : Object) → tree < 4 → IsMaking v tree → object_row tree o ≡ catalog_row tree
    → (IsStorable 0 (object_row tree o) → ⊥) ⊎ (is_sound_list (put_row (object_row tree o) (v.trees catalog_tree)) ≡ false) → ⊥
is_listed_well v tree o low m row (inl un) = un (subst (IsStorable 0) (sym row) (row_storable tree low))
is_listed_well v tree o low m row (inr bad) =
    let good : is_sound_list (put_row (object_row tree o) (v.trees catalog_tree)) ≡ true =
    ap (λ (r : Row). is_sound_list (put_row r (v.trees catalog_tree))) row ∙ (ap (λ (rs : List Row). is_sound_list (put_row (catalog_row tree) rs)) m.listed ∙ (ap is_sound_list (next_row tree low) ∙ rows_sound tree low)) in
    let e = sym good ∙ bad in cc

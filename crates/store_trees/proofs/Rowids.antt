-- Rows that are put into a table, found in it and taken out of it by their rowids.
use Rattle.std.proofs.Common.{◌≡◌, ℕ, pos, true, false, not, List, [], ◌∷◌, ◌++◌, ◌<◌, map, filter, refl, ap, ◌∙◌, Ordering, Less, Equal, Greater, is_lt, is_eq, inl, inr, arith, nat_eq}
use Rattle.std.specs.List.{AllByRecursion}
use Rattle.std.specs.Ordering.{match_ordering}
use Rattle.std.proofs.lemmas.Bool.{cases_eq, cases_Bool, eq-eqb, eqb-true, and_from, and_parts}
use Rattle.std.proofs.lemmas.Bool.Decides.{nat_tests}
use Rattle.std.proofs.lemmas.Int.{ints}
use Rattle.sqlite_value.specs.declared.value.Value.TheVariants.{Int}
use Rattle.sqlite_value.specs.Order.{Row, value_cmp}
use Rattle.sqlite_value.proofs.OrderLemmas.{value_cmp_total, value_cmp-Int}
use Rattle.sqlite_trees.specs.Tree.{rowid, IsTable, has_rowid, put_row, without_rowid}
use Rattle.sqlite_trees.proofs.ListLemmas.{filter_none}
use Rattle.sqlite_trees.proofs.TreeLemmas.{later_rowids}
use Rattle.account_core.specs.Machine.{Grant, is_grant}
use Rattle.store_trees.specs.Tables.{grant_entry}

same_id : (a b : ℕ) → a ≡ b → value_cmp (Int (pos a)) (Int (pos b)) ≡ Equal
same_id a b h = value_cmp-Int (pos a) (pos b) ∙ grind (arith, ints, nat_tests)

pub id_below : (a b : ℕ) → a < b → value_cmp (Int (pos a)) (Int (pos b)) ≡ Less
id_below a b h = value_cmp-Int (pos a) (pos b) ∙ grind (arith, ints, nat_tests)

other_id : (a b : ℕ) → (a ≡ b → ⊥) → is_eq (value_cmp (Int (pos a)) (Int (pos b))) ≡ false
other_id a b h = ap is_eq (value_cmp-Int (pos a) (pos b)) ∙ grind (arith, ints, nat_tests)

-- the row that is put is the one that has its rowid
pub put_own : (id : ℕ) (more : Row) (rows : List Row) → IsTable rows → filter (has_rowid (pos id)) (put_row (Int (pos id) ∷ more) rows) ≡ (Int (pos id) ∷ more) ∷ []
put_own id more [] table = rw (same_id id id refl)
put_own id more (r ∷ rows) table = go (value_cmp (rowid r) (Int (pos id))) refl (put_own id more rows table.1)
  where
    new : Row
    new = Int (pos id) ∷ more

    go : (o : Ordering) → value_cmp (rowid r) (Int (pos id)) ≡ o → filter (has_rowid (pos id)) (put_row new rows) ≡ new ∷ []
        → filter (has_rowid (pos id)) (match_ordering o (r ∷ put_row new rows) (new ∷ rows) (new ∷ r ∷ rows)) ≡ new ∷ []
    go Less e found = rw (e) found
    go Equal e found = rw (same_id id id refl, filter_none (has_rowid (pos id)) rows (later_rowids (Int (pos id)) r rows (ap is_lt e) table.0))
    go Greater e found = rw (same_id id id refl, e, filter_none (has_rowid (pos id)) rows (later_rowids (Int (pos id)) r rows (ap is_lt e) table.0))

-- under other rowids stands what stood there
pub put_other : (id other : ℕ) (more : Row) (rows : List Row) → (id ≡ other → ⊥) → filter (has_rowid (pos other)) (put_row (Int (pos id) ∷ more) rows) ≡ filter (has_rowid (pos other)) rows
put_other id other more [] apart = rw (other_id id other apart)
put_other id other more (r ∷ rows) apart = go (value_cmp (rowid r) (Int (pos id))) refl (put_other id other more rows apart)
  where
    new : Row
    new = Int (pos id) ∷ more

    go : (o : Ordering) → value_cmp (rowid r) (Int (pos id)) ≡ o → filter (has_rowid (pos other)) (put_row new rows) ≡ filter (has_rowid (pos other)) rows
        → filter (has_rowid (pos other)) (match_ordering o (r ∷ put_row new rows) (new ∷ rows) (new ∷ r ∷ rows)) ≡ filter (has_rowid (pos other)) (r ∷ rows)
    go Less e same = rw (same)
    go Equal e same = rw (value_cmp_total.congr (rowid r) (Int (pos id)) (Int (pos other)) e, other_id id other apart)
    go Greater e same = rw (other_id id other apart)

-- a row past all others is put behind them
pub put_last : (new : Row) (rows : List Row) → AllByRecursion (λ r. value_cmp (rowid r) (rowid new) ≡ Less) rows → put_row new rows ≡ rows ++ new ∷ []
put_last new [] below = refl
put_last new (r ∷ rows) below = rw (below.0, put_last new rows below.1)

pub grants_below : (number : ℕ) (gs : List Grant) → AllByRecursion (λ g. g.number < number) gs → AllByRecursion (λ r. value_cmp (rowid r) (Int (pos number)) ≡ Less) (map grant_entry gs)
grants_below number [] below = tt
grants_below number (g ∷ gs) below = (id_below g.number number below.0, grants_below number gs below.1)

its_grant : (client number : ℕ) (g : Grant) → g.number ≡ number → g.caller ≡ client → is_grant client number g ≡ true
its_grant client number g same its = and_from (nat_eq g.caller client) (nat_eq g.number number) (eq-eqb g.caller client its) (eq-eqb g.number number same)

not_its : (client number : ℕ) (g : Grant) → (g.number ≡ number → ⊥) → is_grant client number g ≡ false
not_its client number g other = elim (cases_Bool (is_grant client number g)) [
  | inl is ↦ absurd (other (eqb-true g.number number (and_parts (nat_eq g.caller client) (nat_eq g.number number) is).1))
  | inr down ↦ down
]

-- where the grants of a number are the client's, the number alone takes out what the client and the number do
pub without_number : (client number : ℕ) (gs : List Grant) → AllByRecursion (λ g. g.number ≡ number → g.caller ≡ client) gs
    → without_rowid (pos number) (map grant_entry gs) ≡ map grant_entry (filter (λ g. not (is_grant client number g)) gs)
without_number client number [] its = refl
without_number client number (g ∷ gs) its = elim (cases_eq g.number number) [
  | inl same ↦ rw (same_id g.number number same, its_grant client number g same (its.0 same), without_number client number gs its.1)
  | inr other ↦ rw (other_id g.number number other, not_its client number g other, without_number client number gs its.1)
]

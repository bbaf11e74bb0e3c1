-- The tables show the rows that steps leave, where numbers alone find their grants.
use Rattle.std.proofs.Common.{◌≡◌, ⊎_elim, ℕ, pos, List, [], ◌∷◌, ◌++◌, true, false, nat_eq, map, filter, not, inl, inr, refl, sym, ap, subst, ◌∙◌}
use Rattle.std.proofs.lemmas.Bool.{cases_Bool, cond-true, cond-false, eqb-true, eqb-false}
use Rattle.sqlite_value.specs.Order.{Row, column}
use Rattle.sqlite_trees.specs.Tree.{Trees, IsTable, has_rowid, put_row, no_trees}
use Rattle.sqlite_trees.specs.Objects.{number_in}
use Rattle.sqlite_trees.proofs.TreeLemmas.{IsTable-put_row}
use Rattle.account_core.specs.Machine.{Grant}
use Rattle.account_core.specs.Costs.{cost}
use Rattle.account_store.specs.declared.step.AccountRow.{AccountRow}
use Rattle.account_store.specs.declared.step.Step.{Step}
use Rattle.account_store.specs.declared.step.Step.TheVariants.{Accounted, Opened, Closed}
use Rattle.account_store.specs.Steps.{Rows, no_rows, grant_of, with_row, stepped, stepped_by, AreSameRows}
use Rattle.account_store.specs.Numbers.{IsNumbered, AreNumbered, ComesTo}
use Rattle.store_trees.specs.Tables.{account_tree, account_entry, grant_entry, entered, entered_by, AgreeOnRows}
use Rattle.store_trees.specs.Shown.{IsAccountIn, AreShown}
use Rattle.store_trees.proofs.Rowids.{put_own, put_other, put_last, grants_below, without_number}

pub map_push : (gs : List Grant) (g : Grant) → map grant_entry (gs ++ g ∷ []) ≡ map grant_entry gs ++ grant_entry g ∷ []
map_push [] g = refl
map_push (x ∷ xs) g = ap (λ (rows : List Row). grant_entry x ∷ rows) (map_push xs g)

-- shown, and the table of accounts is in order
record IsKept (rows : Rows) (trees : Trees) : Type 0 where
  shown : AreShown rows trees
  table : IsTable (trees account_tree)

account_put : (rows : Rows) (trees : Trees) (client : ℕ) (row : AccountRow) → IsKept rows trees → (other : ℕ)
    → IsAccountIn (put_row (account_entry client row) (trees account_tree)) other (with_row client row rows.accounts other)
account_put rows trees client row kept other = ⊎_elim
    (λ (is : nat_eq client other ≡ true).
    let same = eqb-true client other is in
    inl (ap (λ (c : ℕ). filter (has_rowid (pos c)) (put_row (account_entry client row) (trees account_tree))) (sym same)
    ∙ (put_own client _ (trees account_tree) kept.table
    ∙ ((λ i. account_entry (same i) row ∷ [])
    ∙ ap (λ (r : AccountRow). account_entry other r ∷ []) (sym (cond-true (nat_eq client other) row (rows.accounts other) is))))))
    (λ (apart : nat_eq client other ≡ false).
    let same = put_other client other _ (trees account_tree) (eqb-false client other apart) in
    let there = cond-false (nat_eq client other) row (rows.accounts other) apart in
    ⊎_elim
    (λ found. inl (same ∙ (found ∙ ap (λ (r : AccountRow). account_entry other r ∷ []) (sym there))))
    (λ none. inr (same ∙ none.0, there ∙ none.1))
    (kept.shown.accounts other))
    (cases_Bool (nat_eq client other))

kept_step : (rows : Rows) (trees : Trees) (s : Step) → IsKept rows trees → IsNumbered rows s → IsKept (stepped rows s) (entered trees s)
kept_step rows trees (Accounted client row) kept numbered = record {
  shown = record { accounts = account_put rows trees client row kept; grants = kept.shown.grants };
  table = IsTable-put_row (account_entry client row) (trees account_tree) kept.table;
}
kept_step rows trees (Opened g) kept numbered = record {
  shown = record {
    accounts = kept.shown.accounts;
    grants =
        ap (put_row (grant_entry (grant_of g))) kept.shown.grants
        ∙ (put_last (grant_entry (grant_of g)) (map grant_entry rows.grants) (grants_below g.number rows.grants numbered) ∙ sym (map_push rows.grants (grant_of g)));
  };
  table = kept.table;
}
kept_step rows trees (Closed client number) kept numbered = record {
  shown = record {
    accounts = kept.shown.accounts;
    grants = ap (λ (es : List Row). filter (λ r. not (has_rowid (pos number) r)) es) kept.shown.grants ∙ without_number client number rows.grants numbered;
  };
  table = kept.table;
}

kept_steps : (rows : Rows) (trees : Trees) (ss : List Step) → IsKept rows trees → AreNumbered rows ss → AreShown (stepped_by rows ss) (entered_by trees ss)
kept_steps rows trees [] kept numbered = kept.shown
kept_steps rows trees (s ∷ ss) kept numbered = kept_steps (stepped rows s) (entered trees s) ss (kept_step rows trees s kept numbered.0) numbered.1

none_kept : IsKept no_rows no_trees
none_kept = record { shown = record { accounts = λ client. inr (refl, refl); grants = refl }; table = tt }

pub steps_shown : (steps : List Step) → AreNumbered no_rows steps → AreShown (stepped_by no_rows steps) (entered_by no_trees steps)
steps_shown steps numbered = kept_steps no_rows no_trees steps none_kept numbered

-- ---- tables that show two rows

number_at : ℕ → Row → ℕ
number_at at row = number_in (column row at)

same_account : (client : ℕ) (a b : AccountRow) → account_entry client a ≡ account_entry client b → a ≡ b
unfolding number_at
same_account client a b same = λ i. record {
  window = ap (number_at 2) same i;
  settled = cost (ap (number_at 3) same i) (ap (number_at 4) same i);
  carried = cost (ap (number_at 5) same i) (ap (number_at 6) same i);
}

same_grant : (a b : Grant) → grant_entry a ≡ grant_entry b → a ≡ b
unfolding number_at
same_grant a b same = λ i. record {
  caller = ap (number_at 2) same i;
  number = ap (number_at 0) same i;
  window = ap (number_at 3) same i;
  bound = cost (ap (number_at 4) same i) (ap (number_at 5) same i);
}

first_row : List Row → Row
first_row [] = []
first_row (r ∷ rs) = r

other_rows : List Row → List Row
other_rows [] = []
other_rows (r ∷ rs) = rs

same_grants : (gs hs : List Grant) → map grant_entry gs ≡ map grant_entry hs → gs ≡ hs
unfolding first_row other_rows
same_grants [] [] same = refl
same_grants [] (h ∷ hs) same = absurd cc
same_grants (g ∷ gs) [] same = absurd cc
same_grants (g ∷ gs) (h ∷ hs) same = λ i. same_grant g h (ap first_row same) i ∷ same_grants gs hs (ap other_rows same) i

same_shown : (entries : List Row) (client : ℕ) (a b : AccountRow) → IsAccountIn entries client a → IsAccountIn entries client b → a ≡ b
unfolding first_row
same_shown entries client a b one two = ⊎_elim
    (λ found. ⊎_elim (λ also. same_account client a b (ap first_row (sym found ∙ also))) (λ none. absurd (let both = sym found ∙ none.0 in cc)) two)
    (λ none. ⊎_elim (λ found. absurd (let both = sym none.0 ∙ found in cc)) (λ also. none.1 ∙ sym also.1) two)
    one

same_rows : (a b : Rows) (trees : Trees) → AreShown a trees → AreShown b trees → AreSameRows a b
same_rows a b trees one two = record {
  accounts = λ client. same_shown (trees account_tree) client (a.accounts client) (b.accounts client) (one.accounts client) (two.accounts client);
  grants = same_grants a.grants b.grants (sym one.grants ∙ two.grants);
}

-- what agrees with the trees of steps shows their rows
pub comes_to : (found steps : List Step) → AreNumbered no_rows found → AgreeOnRows (entered_by no_trees found) (entered_by no_trees steps) → ComesTo found steps
comes_to found steps numbered agree others =
    let one = steps_shown found numbered in
    same_rows (stepped_by no_rows found) (stepped_by no_rows steps) (entered_by no_trees steps) (record {
      accounts = λ client. subst (λ (es : List Row). IsAccountIn es client ((stepped_by no_rows found).accounts client)) agree.accounts (one.accounts client);
      grants = sym agree.grants ∙ one.grants;
    }) (steps_shown steps others)

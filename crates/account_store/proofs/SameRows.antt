-- Steps one after the other, and rows that are the same.
use Rattle.std.proofs.Common.{◌≡◌, List, [], ◌∷◌, ◌++◌, nat_eq, cond, refl, ap, subst, ◌∙◌, filter, not}
use Rattle.account_core.specs.Machine.{Grant, is_grant}
use Rattle.account_store.specs.declared.step.AccountRow.{AccountRow}
use Rattle.account_store.specs.declared.step.Step.{Step}
use Rattle.account_store.specs.declared.step.Step.TheVariants.{Accounted, Opened, Closed}
use Rattle.account_store.specs.Steps.{Rows, no_rows, grant_of, stepped, stepped_by, AreSameRows}
use Rattle.account_store.specs.Numbers.{ComesTo}

pub stepped_by_both : (rows : Rows) (xs ys : List Step) → stepped_by rows (xs ++ ys) ≡ stepped_by (stepped_by rows xs) ys
stepped_by_both rows [] ys = refl
stepped_by_both rows (x ∷ xs) ys = stepped_by_both (stepped rows x) xs ys

pub same_then : (a b c : Rows) → AreSameRows a b → AreSameRows b c → AreSameRows a c
same_then a b c one two = record { accounts = λ client. one.accounts client ∙ two.accounts client; grants = one.grants ∙ two.grants }

same_stepped : (a b : Rows) (s : Step) → AreSameRows a b → AreSameRows (stepped a s) (stepped b s)
same_stepped a b (Accounted client row) same = record {
  accounts = λ other. ap (λ (r : AccountRow). cond (nat_eq client other) row r) (same.accounts other);
  grants = same.grants;
}
same_stepped a b (Opened g) same = record {
  accounts = same.accounts;
  grants = ap (λ (gs : List Grant). gs ++ grant_of g ∷ []) same.grants;
}
same_stepped a b (Closed client number) same = record {
  accounts = same.accounts;
  grants = ap (λ (gs : List Grant). filter (λ g. not (is_grant client number g)) gs) same.grants;
}

pub same_stepped_by : (a b : Rows) (steps : List Step) → AreSameRows a b → AreSameRows (stepped_by a steps) (stepped_by b steps)
same_stepped_by a b [] same = same
same_stepped_by a b (s ∷ ss) same = same_stepped_by (stepped a s) (stepped b s) ss (same_stepped a b s same)

pub found_same : (found steps : List Step) → found ≡ steps → ComesTo found steps
found_same found steps same numbered = subst (λ (ss : List Step). AreSameRows (stepped_by no_rows found) (stepped_by no_rows ss)) same (record { accounts = λ client. refl; grants = refl })

-- When a number alone finds a grant among those of all clients, and what is found again of such steps.
use Rattle.std.specs.Prelude.{◌≡◌, ◌<◌, List, [], ◌∷◌, ◌++◌}
use Rattle.std.specs.List.{AllByRecursion}
use Rattle.account_core.specs.Machine.{Entry}
use Rattle.account_core.specs.History.{NumbersBelow}
use Rattle.account_store.specs.declared.step.Step.{Step}
use Rattle.account_store.specs.declared.step.Step.TheVariants.{Accounted, Opened, Closed}
use Rattle.account_store.specs.Steps.{Rows, no_rows, stepped, stepped_by, AreSameRows}

-- A grant that is opened has a number past those of all open ones, and a number that is closed is that of no other client's grant.
abbrev pub IsNumbered : Rows → Step → Type 0
IsNumbered rows (Accounted client row) = Unit {0}
IsNumbered rows (Opened g) = AllByRecursion (λ other. other.number < g.number) rows.grants
IsNumbered rows (Closed client number) = AllByRecursion (λ other. other.number ≡ number → other.caller ≡ client) rows.grants

abbrev pub AreNumbered : Rows → List Step → Type 0
AreNumbered rows [] = Unit {0}
AreNumbered rows (s ∷ ss) = IsNumbered rows s × AreNumbered (stepped rows s) ss

-- The numbers of calls rise over all clients: behind a history, each of these entries has a number past all before it.
abbrev pub AllNumbersRise : List Entry → List Entry → Type 0
AllNumbersRise history [] = Unit {0}
AllNumbersRise history (e ∷ es) = NumbersBelow e.number history × AllNumbersRise (history ++ e ∷ []) es

-- What is found comes to the rows of these steps, where numbers alone find their grants.
abbrev pub ComesTo : List Step → List Step → Type 0
ComesTo found steps = AreNumbered no_rows steps → AreSameRows (stepped_by no_rows found) (stepped_by no_rows steps)

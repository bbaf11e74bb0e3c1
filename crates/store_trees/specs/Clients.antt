-- The table of clients: each key has a row with its SHA-256, and keeps its number for good.
use Rattle.std.specs.Prelude.{ℕ, pos, ◌≡◌, ◌≢◌, ◌⊎◌, ◌<◌, ◌≤◌, ◌^◌, Bool, List, [], ◌∷◌, ◌++◌, ◌+◌, length, get_or, map, Option, None, Some, if◌then◌else◌, ⊤}
use Rattle.std.specs.List.{AllByRecursion}
use Rattle.std.specs.Ordering.{is_eq, nat_cmp}
use Rattle.std.specs.Cmp.Lexicographic.{slice_cmp}
use Rattle.sqlite_value.specs.declared.value.Value.TheVariants.{Null, Int, Blob}
use Rattle.sqlite_value.specs.Order.{Row}
use Rattle.sqlite_trees.specs.Tree.{Trees, put_row, with_tree}
use Rattle.sqlite_trees.specs.View.{View, IsStorableRow}
use Rattle.store_trees.specs.Tables.{client_tree}

abbrev pub client_entry : ℕ → List ℕ → Row
client_entry number sum = Int (pos number) ∷ Null ∷ Blob sum ∷ []

abbrev pub client_row : ℕ × List ℕ → Row
client_row c = client_entry c.0 c.1

abbrev pub is_sum : List ℕ → List ℕ → Bool
is_sum sum other = is_eq (slice_cmp nat_cmp sum other)

-- the number of the first row with a sum
abbrev pub number_of : List (ℕ × List ℕ) → List ℕ → Option ℕ
number_of [] sum = None
number_of (c ∷ cs) sum = if is_sum c.1 sum then Some c.0 else number_of cs sum

-- no sum comes twice
abbrev pub AreDistinct : List (ℕ × List ℕ) → Type 0
AreDistinct [] = ⊤
AreDistinct (c ∷ cs) = (number_of cs c.1 ≡ None) × AreDistinct cs

-- the numbers rise
abbrev pub AreRising : List (ℕ × List ℕ) → Type 0
AreRising [] = ⊤
AreRising (c ∷ cs) = AllByRecursion (λ other. c.0 < other.0) cs × AreRising cs

-- the number behind those of clients, from one on
abbrev pub next_from : ℕ → List (ℕ × List ℕ) → ℕ
next_from next [] = next
next_from next (c ∷ cs) = next_from (c.0 + 1) cs

-- Clients that are known once each, by rising numbers, and the next one.
pub record AreKnown (clients : List (ℕ × List ℕ)) (next : ℕ) : Type 0 where
  pub distinct : AreDistinct clients
  pub rising : AreRising clients
  pub below : AllByRecursion (λ c. c.0 < next) clients
  pub is_next : next ≡ next_from 0 clients

-- Rows of clients that a keeper writes: a client's number has 32 bits, and they rise; no sum comes twice.
pub record AreClients (rows : List Row) : Type 0 where
  pub clients : List (ℕ × List ℕ)
  pub fit : AllByRecursion (λ c. (c.0 < 2 ^ 32) × (length c.1 ≡ 32)) clients
  pub distinct : AreDistinct clients
  pub rising : AreRising clients
  pub are : rows ≡ map client_row clients

-- the number that the next client gets
abbrev pub IsNextOf : List Row → ℕ → Type 0
IsNextOf rows next = (clients : List (ℕ × List ℕ)) × (rows ≡ map client_row clients) × (next ≡ next_from 0 clients)

-- and there are so many numbers left
pub record HaveRoom (rows : List Row) (count : ℕ) : Type 0 where
  pub clients : AreClients rows
  pub room : next_from 0 clients.clients + count ≤ 2 ^ 32

-- each of these sums has its number
abbrev pub HaveNumbers : List (ℕ × List ℕ) → List (List ℕ) → List ℕ → Type 0
HaveNumbers clients sums numbers = map (number_of clients) sums ≡ map Some numbers

-- new clients of these sums, numbered one by one from a number on
abbrev pub AreNew : ℕ → List (List ℕ) → List (ℕ × List ℕ) → Type 0
AreNew next sums [] = ⊤
AreNew next sums (c ∷ cs) = (c.0 ≡ next) × ((at : ℕ) × ((at < length sums) × (get_or sums at [] ≡ c.1))) × AreNew (next + 1) sums cs

-- no client more, or one of a sum with the next number
abbrev pub IsNext : List (ℕ × List ℕ) → ℕ → List ℕ → List (ℕ × List ℕ) → ℕ → Type 0
IsNext old next sum new after = ((new ≡ old) × (after ≡ next)) ⊎ ((new ≡ old ++ (next, sum) ∷ []) × (after ≡ next + 1))

-- nothing but new clients of these sums, behind the others
pub record Grows (old : List (ℕ × List ℕ)) (next : ℕ) (sums : List (List ℕ)) (new : List (ℕ × List ℕ)) (after : ℕ) : Type 0 where
  pub more : List (ℕ × List ℕ)
  pub is : new ≡ old ++ more
  pub are_new : AreNew next sums more
  pub counts : after ≡ next + length more

-- the store takes the row of any client, where the table has these REAL columns
abbrev pub TakesClients : ℕ → Type 0
TakesClients reals = (number : ℕ) (sum : List ℕ) → number < 2 ^ 32 → length sum ≡ 32 → IsStorableRow reals (client_entry number sum)

-- rows of these clients are put, one after the other
abbrev pub clients_put : Trees → List (ℕ × List ℕ) → Trees
clients_put trees [] = trees
clients_put trees (c ∷ cs) = clients_put (with_tree trees client_tree (put_row (client_row c) (trees client_tree))) cs

pub record PutsClients (old new : View) (clients : List (ℕ × List ℕ)) : Type 0 where
  pub sound : new.is_broken ≡ old.is_broken
  pub trees : new.trees ≡ clients_put old.trees clients
  pub committed : new.committed ≡ old.committed

-- What numbers these sums have in the table of clients: those that they had before, or the next ones. No other table has changed.
pub record Enters (old new : Trees) (sums : List (List ℕ)) (numbers : List ℕ) : Type 0 where
  pub before : List (ℕ × List ℕ)
  pub after : List (ℕ × List ℕ)
  pub was : old client_tree ≡ map client_row before
  pub is : new client_tree ≡ map client_row after
  pub next : ℕ
  pub grown : Grows before (next_from 0 before) sums after next
  pub distinct : AreDistinct after
  pub rising : AreRising after
  pub numbered : HaveNumbers after sums numbers
  pub others : (tree : ℕ) → tree ≢ client_tree → new tree ≡ old tree

-- the new ones of these sums have been added, all of them
abbrev pub HaveEntered : Trees → Trees → List (List ℕ) → Type 0
HaveEntered old new sums = (numbers : List ℕ) × Enters old new sums numbers

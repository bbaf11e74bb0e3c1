-- How far the lines of clients are read.
use Rattle.std.specs.Prelude.{◌≡◌, ℕ, ◌+◌, ◌<◌, ◌≤◌, ◌⊎◌, true, List, [], ◌∷◌, ◌++◌, length, take}
use Rattle.gql_base.specs.names.Names.{are_distinct}
use Rattle.client_files.specs.Limits.{client_limit}
use Rattle.client_files.specs.declared.client.Client.{Client}
use Rattle.client_files.specs.declared.heading.Version.{Version}
use Rattle.client_files.specs.ClientLines.{IsClientLine}
use Rattle.client_files.specs.ClientFiles.{AreClientLines, keys_of}

-- no client is named by the first of these lines
abbrev pub NamesNone : Version → List (List ℕ) → Type 0
NamesNone version [] = ⊥
NamesNone version (line ∷ lines) = (client : Client) → ¬ (IsClientLine version line client)

-- a front of the lines names these clients, up to one more than there may be; nothing is left, or there are that many, or
-- the next line names none
pub record IsFront (version : Version) (lines : List (List ℕ)) (clients : List Client) : Type 0 where
  pub front : List (List ℕ)
  pub left : List (List ℕ)
  pub cut : lines ≡ front ++ left
  pub named : AreClientLines version front clients
  pub most : length clients ≤ client_limit + 1
  pub ends : (left ≡ []) ⊎ ((length clients ≡ client_limit + 1) ⊎ NamesNone version left)

-- the lines name these clients, which a file may name together
pub record AreServed (version : Version) (lines : List (List ℕ)) (clients : List Client) : Type 0 where
  pub named : AreClientLines version lines clients
  pub some : 0 < length clients
  pub few : length clients ≤ client_limit
  pub distinct : are_distinct (keys_of clients) ≡ true

-- the first lines, as many as were gone through, name these clients
pub record NamesSoFar (version : Version) (lines : List (List ℕ)) (clients : List Client) (at : ℕ) : Type 0 where
  pub named : AreClientLines version (take at lines) clients
  pub counted : length clients ≡ at
  pub most : length clients ≤ client_limit + 1

-- What a client file says.
use Rattle.std.specs.Prelude.{◌≡◌, ℕ, ◌<◌, ◌≤◌, true, List, [], ◌∷◌, length, map, ⊤}
use Rattle.std.specs.List.{All}
use Rattle.cost_num.specs.declared.TheConstants.{CAP}
use Rattle.gql_base.specs.names.Names.{are_distinct}
use Rattle.client_files.specs.Limits.{client_limit}
use Rattle.client_files.specs.declared.client.Client.{Client}
use Rattle.client_files.specs.declared.heading.Version.{Version}
use Rattle.client_files.specs.declared.heading.Version.TheVariants.{Two}
use Rattle.client_files.specs.Lines.{lines_of}
use Rattle.client_files.specs.Headings.{version_line, IsWindow, IsWindowLine}
use Rattle.client_files.specs.ClientLines.{is_key, Allows, IsClientLine}

-- the lines name these clients, one each
abbrev pub AreClientLines : Version → List (List ℕ) → List Client → Type 0
AreClientLines version [] [] = ⊤
AreClientLines version (line ∷ lines) (client ∷ clients) = IsClientLine version line client × AreClientLines version lines clients
AreClientLines version _ _ = ⊥

-- the keys of clients
abbrev pub keys_of : List Client → List (List ℕ)
keys_of clients = map (λ client. client.key) clients

-- a client that a file may name
pub record MayBeNamed (client : Client) : Type 0 where
  pub key : is_key client.key ≡ true
  pub types : client.allowance.types ≤ CAP
  pub fields : client.allowance.fields ≤ CAP
  pub carried : Allows Two client.allowance client.carry

-- a window and clients that a file may give
pub record MayBeServed (seconds : ℕ) (clients : List Client) : Type 0 where
  pub window : IsWindow seconds
  pub each : All MayBeNamed clients
  pub some : 0 < length clients
  pub few : length clients ≤ client_limit
  pub distinct : are_distinct (keys_of clients) ≡ true

-- The lines are those of a client file with this window and these clients: a line with a version, one with the window, and
-- one for each client. There are 1 to 1,000 clients, and no key stands twice.
pub record AreFileLines (lines : List (List ℕ)) (seconds : ℕ) (clients : List Client) : Type 0 where
  pub version : Version
  pub second : List ℕ
  pub further : List (List ℕ)
  pub cut : lines ≡ version_line version ∷ second ∷ further
  pub window : IsWindowLine second seconds
  pub named : AreClientLines version further clients
  pub some : 0 < length clients
  pub few : length clients ≤ client_limit
  pub distinct : are_distinct (keys_of clients) ≡ true

-- the text is a client file with this window and these clients
abbrev pub IsClientFile : List ℕ → ℕ → List Client → Type 0
IsClientFile text seconds clients = AreFileLines (lines_of text) seconds clients

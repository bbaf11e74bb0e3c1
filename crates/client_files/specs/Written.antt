-- The file of version 2 that is written for clients.
use Rattle.std.specs.Prelude.{◌≡◌, ℕ, Bool, true, false, List, [], ◌∷◌, ◌++◌, map, codes}
use Rattle.std.specs.List.{flat_map}
use Rattle.cost_num.specs.CostText.{cost_text}
use Rattle.client_files.specs.declared.client.Client.{Client}
use Rattle.client_files.specs.declared.heading.Version.TheVariants.{Two}
use Rattle.client_files.specs.Lines.{ended}
use Rattle.client_files.specs.Headings.{version_line, window_line}
use Rattle.client_files.specs.ClientFiles.{IsClientFile}

-- what ends the line of a client that carries
abbrev pub carry_end : Bool → List ℕ
carry_end true = codes " carry"
carry_end false = []

-- the line of a client: its key, its allowance as a cost is printed, and its mark
abbrev pub client_line : Client → List ℕ
client_line client = client.key ++ ((32 ∷ cost_text client.allowance) ++ carry_end client.carry)

-- the lines of the file
abbrev pub file_lines : ℕ → List Client → List (List ℕ)
file_lines seconds clients = version_line Two ∷ window_line seconds ∷ map client_line clients

-- each line is ended
unfoldable pub client_file : ℕ → List Client → List ℕ
client_file seconds clients = flat_map ended (file_lines seconds clients)

-- the file is that of version 2 for the window and the clients of the text
pub record Migrates (text file : List ℕ) : Type 0 where
  pub seconds : ℕ
  pub clients : List Client
  pub read : IsClientFile text seconds clients
  pub written : file ≡ client_file seconds clients

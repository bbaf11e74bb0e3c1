-- What reading a client file gives.
use Rattle.std.specs.Prelude.{◌≡◌, ℕ, List, Result, Ok, Err, ◌⊎◌}
use Rattle.client_files.specs.declared.client.Client.{Client}
use Rattle.client_files.specs.declared.client.Clients.{Clients}
use Rattle.client_files.specs.declared.fault.ClientsFault.{ClientsFault}
use Rattle.client_files.specs.declared.fault.ClientsFault.TheVariants.{Memory}

-- this window and these clients were given, or there was no memory
abbrev pub Gives : ℕ → List Client → Result Clients ClientsFault → Type 0
Gives seconds clients (Ok read) = (read.window_seconds ≡ seconds) × (read.clients.items ≡ clients)
Gives seconds clients (Err fault) = fault ≡ Memory

-- this text was given, or there was no memory
abbrev pub GivesText : List ℕ → Result (List ℕ) ClientsFault → Type 0
GivesText file (Ok given) = given ≡ file
GivesText file (Err fault) = fault ≡ Memory

-- this fault was told, or there was no memory
abbrev pub Tells : {T : Type 0} → ClientsFault → Result T ClientsFault → Type 0
Tells fault (Ok read) = ⊥
Tells fault (Err told) = (told ≡ fault) ⊎ (told ≡ Memory)

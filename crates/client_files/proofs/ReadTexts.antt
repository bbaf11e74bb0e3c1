-- What reading and migrating a text give.
use Rattle.std.proofs.Common.{◌≡◌, ℕ, ◌⊎◌, inl, inr, List, ◌∷◌, take, map, refl, sym, ap, ◌∙◌, subst, Bor, Result, Ok, Err}
use Rattle.std.specs.Prelude.{IfOk, IfErr}
use Rattle.std.specs.List.{slice_split}
use Rattle.std.proofs.lemmas.List.{take-map}
use Rattle.client_files.specs.declared.client.Client.{Client}
use Rattle.client_files.specs.declared.client.Clients.{Clients}
use Rattle.client_files.specs.declared.fault.ClientsFault.{ClientsFault}
use Rattle.client_files.specs.declared.fault.ClientsFault.TheVariants.{BadLine, Repeated, TooMany, NoClient, Memory}
use Rattle.client_files.specs.declared.heading.Version.{Version}
use Rattle.client_files.specs.Headings.{version_line, IsWindowLine}
use Rattle.client_files.specs.Lines.{is_line_feed, but_an_empty_last, lines_of}
use Rattle.client_files.specs.ClientFiles.{MayBeServed, AreFileLines, IsClientFile}
use Rattle.client_files.specs.Faults.{IsFirstFault, IsFaultOf}
use Rattle.client_files.specs.Readings.{Gives, Tells}
use Rattle.client_files.specs.Written.{client_file, Migrates}
use Rattle.client_files.proofs.FirstFaults.{bad_version, bad_window}
use Rattle.client_files.proofs.OneReading.{windows_are_one, clients_are_one, one_fault, not_both}
use Rattle.client_files.proofs.WrittenFiles.{read_may_be_served}

-- the parts that are read are the lines
pub read_parts : (text : List ℕ) (parts : List (Bor (List ℕ))) (count : ℕ) → map (λ part. part.now) parts ≡ slice_split is_line_feed text → take count (map (λ part. part.now) parts) ≡ but_an_empty_last (map (λ part. part.now) parts)
    → map (λ part. part.now) (take count parts) ≡ lines_of text
unfolding lines_of
read_parts text parts count cut counted = sym (take-map (λ (part : Bor (List ℕ)). part.now) count parts) ∙ (counted ∙ ap but_an_empty_last cut)

-- the first two lines

module _ (lines : List (Bor (List ℕ))) (first : Bor (List ℕ)) (rest : List (Bor (List ℕ))) (cut : lines ≡ first ∷ rest) where
  pub tells_version : ((version : Version) → ¬ (first.now ≡ version_line version)) → IsFirstFault (map (λ line. line.now) lines) (BadLine 1)
  tells_version none = subst (λ ls. IsFirstFault (map (λ (line : Bor (List ℕ)). line.now) ls) (BadLine 1)) (sym cut) (bad_version first.now (map (λ (line : Bor (List ℕ)). line.now) rest) none)

  module _ (second : Bor (List ℕ)) (further : List (Bor (List ℕ))) (cut_again : rest ≡ second ∷ further) (version : Version) (is : first.now ≡ version_line version) where
    whole : lines ≡ first ∷ second ∷ further
    whole = cut ∙ ap (λ ls. first ∷ ls) cut_again

    pub tells_window : ((seconds : ℕ) → ¬ (IsWindowLine second.now seconds)) → IsFirstFault (map (λ line. line.now) lines) (BadLine 2)
    tells_window none = subst (λ ls. IsFirstFault (map (λ (line : Bor (List ℕ)). line.now) ls) (BadLine 2)) (sym whole) (bad_window first.now second.now (map (λ (line : Bor (List ℕ)). line.now) further) version is none)

    pub tells_clients : (seconds : ℕ) → IsWindowLine second.now seconds → (fault : ClientsFault)
        → ((other : List ℕ) (window : ℕ) → IsWindowLine other window → IsFaultOf (version_line version ∷ other ∷ map (λ line. line.now) further) fault) → IsFaultOf (map (λ line. line.now) lines) fault
    tells_clients seconds given fault told =
        subst (λ ls. IsFaultOf (map (λ (line : Bor (List ℕ)). line.now) ls) fault) (sym whole)
        (subst (λ l. IsFaultOf (l ∷ second.now ∷ map (λ (line : Bor (List ℕ)). line.now) further) fault) (sym is) (told second.now seconds given))

memory_only : (lines : List (List ℕ)) (fault : ClientsFault) → IsFaultOf lines fault → (IsFirstFault lines fault → ⊥) → fault ≡ Memory
memory_only lines (BadLine at) is none = absurd (none is)
memory_only lines (Repeated at) is none = absurd (none is)
memory_only lines (TooMany at) is none = absurd (none is)
memory_only lines NoClient is none = absurd (none is)
memory_only lines Memory is none = refl

pub told_or_memory : (lines : List (List ℕ)) (told fault : ClientsFault) → IsFaultOf lines told → IsFirstFault lines fault → (told ≡ fault) ⊎ (told ≡ Memory)
told_or_memory lines (BadLine at) fault is first = inl (one_fault lines (BadLine at) fault is first)
told_or_memory lines (Repeated at) fault is first = inl (one_fault lines (Repeated at) fault is first)
told_or_memory lines (TooMany at) fault is first = inl (one_fault lines (TooMany at) fault is first)
told_or_memory lines NoClient fault is first = inl (one_fault lines NoClient fault is first)
told_or_memory lines Memory fault is first = inr refl

pub all_served : (lines : List (List ℕ)) (result : Result Clients ClientsFault) → IfOk result (λ read. AreFileLines lines read.window_seconds read.clients.items) → IfOk result (λ read. MayBeServed read.window_seconds read.clients.items)
all_served lines (Ok read) file = read_may_be_served lines read.window_seconds read.clients.items file
all_served lines (Err fault) file = tt

pub all_given : (lines : List (List ℕ)) (result : Result Clients ClientsFault) → IfOk result (λ read. AreFileLines lines read.window_seconds read.clients.items) → IfErr result (λ fault. IsFaultOf lines fault)
    → (seconds : ℕ) (clients : List Client) → AreFileLines lines seconds clients → Gives seconds clients result
all_given lines (Ok read) file fault seconds clients given = (windows_are_one lines read.window_seconds seconds read.clients.items clients file given, clients_are_one lines read.window_seconds seconds read.clients.items clients file given)
all_given lines (Err told) file fault seconds clients given = memory_only lines told fault (λ first. not_both lines seconds clients told given first)

pub all_told : (lines : List (List ℕ)) (result : Result Clients ClientsFault) → IfOk result (λ read. AreFileLines lines read.window_seconds read.clients.items) → IfErr result (λ fault. IsFaultOf lines fault)
    → (fault : ClientsFault) → IsFirstFault lines fault → Tells fault result
all_told lines (Ok read) file told fault first = absurd (not_both lines read.window_seconds read.clients.items fault file first)
all_told lines (Err fault') file told fault first = told_or_memory lines fault' fault told first

-- migrating

module _ (text file : List ℕ) (seconds : ℕ) (clients : List Client) (read : IsClientFile text seconds clients) (written : file ≡ client_file seconds clients) where
  pub migrates : Migrates text file
  migrates = record { seconds = seconds; clients = clients; read = read; written = written }

  pub gives_text : (other : ℕ) (others : List Client) → IsClientFile text other others → file ≡ client_file other others
  gives_text other others given = written ∙ (λ i. client_file (windows_are_one (lines_of text) seconds other clients others read given i) (clients_are_one (lines_of text) seconds other clients others read given i))

  pub stays : IsClientFile file seconds clients → (other : ℕ) (others : List Client) → IsClientFile file other others → client_file other others ≡ file
  stays again other others given = sym (written ∙ (λ i. client_file (windows_are_one (lines_of file) seconds other clients others again given i) (clients_are_one (lines_of file) seconds other clients others again given i)))

  pub same_file : IsClientFile file seconds clients → (other : ℕ) (others : List Client) → IsClientFile text other others → IsClientFile file other others
  same_file again other others given =
      subst (λ n. IsClientFile file n others) (windows_are_one (lines_of text) seconds other clients others read given)
      (subst (λ cs. IsClientFile file seconds cs) (clients_are_one (lines_of text) seconds other clients others read given) again)

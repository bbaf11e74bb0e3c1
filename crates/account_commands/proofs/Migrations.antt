-- Client files that are written, and their outputs.
use Rattle.std.proofs.Common.{◌≡◌, ◌⊎◌, inl, inr, ◌∙◌, sym, ap, ap₂, subst, ℕ, ◌-◌, List, [], ◌∷◌, ◌++◌, length, take, map, append_assoc, arith}
use Rattle.std.specs.List.{flat_map}
use Rattle.std.proofs.lemmas.List.{append-nil, append_cancel_right, length-append, take_at}
use Rattle.client_files.specs.declared.client.Client.{Client}
use Rattle.client_files.specs.declared.heading.Version.TheVariants.{Two}
use Rattle.client_files.specs.declared.fault.ClientsFault.{ClientsFault}
use Rattle.client_files.specs.Lines.{ended, lines_of}
use Rattle.client_files.specs.Faults.{IsFirstFault}
use Rattle.client_files.specs.Headings.{version_line, window_line}
use Rattle.client_files.specs.ClientFiles.{IsClientFile, MayBeServed}
use Rattle.client_files.specs.Written.{client_line, client_file, Migrates}
use Rattle.command_outcomes.specs.Texts.{line}
use Rattle.command_outcomes.specs.declared.outcome.Outcome.{Outcome}
use Rattle.command_outcomes.specs.declared.outcome.Outcome.TheVariants.{Memory}
use Rattle.command_outcomes.specs.Outcomes.{IsDone}
use Rattle.account_commands.specs.Migrate.{IsLine, MigrateOf}

-- lines that are ended are a text that ends with a line end
ends : (first : List ℕ) (lines : List (List ℕ)) → IsLine (flat_map ended (first ∷ lines))
ends first [] = (first, append-nil (ended first))
ends first (next ∷ lines) =
    let later = ends next lines in
    (ended first ++ later.0, ap (λ text. ended first ++ text) later.1 ∙ sym (append_assoc (ended first) later.0 (10 ∷ [])))

pub written_line : (text file : List ℕ) → Migrates text file → IsLine file
unfolding client_file
written_line text file m =
    let lines = ends (version_line Two) (window_line m.seconds ∷ map client_line m.clients) in
    (lines.0, m.written ∙ lines.1)

-- without its last byte it is the output
all_but_last : (output : List ℕ) (n : ℕ) → n ≡ length (line output) → take (n - 1) (line output) ≡ output
all_but_last output n is = take_at output (10 ∷ []) (n - 1) (omega (arith, is, length-append output (10 ∷ [])))

pub ended_again : (text : List ℕ) (n : ℕ) → IsLine text → n ≡ length text → line (take (n - 1) text) ≡ text
ended_again text n is counted =
    let cut = all_but_last is.0 n (counted ∙ ap length is.1) in
    ap line (ap (take (n - 1)) is.1 ∙ cut) ∙ sym is.1

-- the text is the file of one window and of one list of clients
pub one_output : (text output other : List ℕ) → ((one two : ℕ) (clients others : List Client) → IsClientFile text one clients → IsClientFile text two others → one ≡ two)
    → ((one two : ℕ) (clients others : List Client) → IsClientFile text one clients → IsClientFile text two others → clients ≡ others)
    → Migrates text (line output) → Migrates text (line other) → output ≡ other
one_output text output other windows lists a b =
    let window = windows a.seconds b.seconds a.clients b.clients a.read b.read in
    let clients = lists a.seconds b.seconds a.clients b.clients a.read b.read in
    append_cancel_right output other (10 ∷ []) (a.written ∙ (ap₂ client_file window clients ∙ sym b.written))

-- ---- a file that is migrated again

-- how texts are read, and what is read of the files that are written
pub record ReadsWhatIsWritten : Type 0 where
  pub one_window : (text : List ℕ) (one other : ℕ) (clients others : List Client) → IsClientFile text one clients → IsClientFile text other others → one ≡ other
  pub same_clients : (text : List ℕ) (one other : ℕ) (clients others : List Client) → IsClientFile text one clients → IsClientFile text other others → clients ≡ others
  pub not_both : (text : List ℕ) (seconds : ℕ) (clients : List Client) (fault : ClientsFault) → IsClientFile text seconds clients → IsFirstFault (lines_of text) fault → ⊥
  pub served : (text : List ℕ) (seconds : ℕ) (clients : List Client) → IsClientFile text seconds clients → MayBeServed seconds clients
  pub file_read : (seconds : ℕ) (clients : List Client) → MayBeServed seconds clients → IsClientFile (client_file seconds clients) seconds clients

pub same_file : ReadsWhatIsWritten → (text file : List ℕ) → Migrates text file → Migrates file file
same_file reads text file m = record {
  seconds = m.seconds;
  clients = m.clients;
  read = subst (λ t. IsClientFile t m.seconds m.clients) (sym m.written) (reads.file_read m.seconds m.clients (reads.served text m.seconds m.clients m.read));
  written = m.written;
}

pub same_output : ReadsWhatIsWritten → (text output : List ℕ) (outcome : Outcome) → Migrates text (line output) → MigrateOf (line output) outcome → (outcome ≡ Memory) ⊎ IsDone output outcome
same_output reads text output outcome m (inl memory) = inl memory
same_output reads text output outcome m (inr (inl again)) =
    inr (subst (λ told. IsDone told outcome) (one_output (line output) again.0 output (reads.one_window (line output)) (reads.same_clients (line output)) again.1 (same_file reads text (line output) m)) again.2)
same_output reads text output outcome m (inr (inr refused)) =
    let file = same_file reads text (line output) m in
    absurd (reads.not_both (line output) file.seconds file.clients refused.0 file.read refused.1)

-- Replays over fresh accounts: what their clients' accounts come to, and how that is written.
use Rattle.std.proofs.Common.{◌≡◌, ◌≤◌, ◌<◌, ◌⊎◌, inl, inr, ◌∙◌, refl, sym, ap, ap₂, subst, ℕ, zero, suc, ◌+◌, List, Option, [], ◌∷◌, ◌++◌, length, map, min, get_or, take, append_assoc, arith}
use Rattle.std.proofs.lemmas.List.{append-nil, length-map}
use Rattle.std.proofs.Math.Nat.{min-le_left}
use Rattle.cost_num.specs.declared.Cost.{Cost}
use Rattle.cost_num.specs.Within.{Within}
use Rattle.account_core.specs.declared.Account.{Account}
use Rattle.account_core.specs.Costs.{smaller}
use Rattle.account_core.specs.Machine.{account_of}
use Rattle.account_core.specs.History.{IsLegal, state_after}
use Rattle.account_cells.specs.Views.{View, no_view}
use Rattle.account_shared.specs.Views.{PassesView, KnowsClients, limit_of, client_at, account_seen}
use Rattle.account_shared.specs.Gains.{entries_for, Gains}
use Rattle.client_files.specs.declared.client.Client.{Client}
use Rattle.client_files.specs.ClientFiles.{MayBeServed}
use Rattle.replay_scripts.specs.Steps.{StepData}
use Rattle.gateway_replay.specs.PassedOn.{Rules, client_limit, greatest}
use Rattle.gateway_replay.specs.Turns.{Turn}
use Rattle.gateway_replay.specs.Lines.{Line, charge_of, total, all_charged, all_lines}
use Rattle.gateway_replay.specs.Replays.{all_calls, IsReportOf, Replays, AreFresh}
use Rattle.gateway_replay.proofs.FreshAccounts.{fresh_at, fresh_count}
use Rattle.account_commands.specs.declared.replay_texts.ReplayTexts.{ReplayTexts}
use Rattle.account_commands.specs.declared.replay_end.ReplayEnd.{ReplayEnd}
use Rattle.command_outcomes.specs.declared.outcome.Outcome.{Outcome}
use Rattle.command_outcomes.specs.declared.outcome.Outcome.TheVariants.{Memory}
use Rattle.command_outcomes.specs.Texts.{line}
use Rattle.account_commands.specs.Migrate.{IsLine}
use Rattle.account_commands.specs.Replay.{account_after, accounts_from, EndsAs, IsReplayed, IsWritten, ReplayOf, client_text, client_lines, IsPrintable}

-- ---- the accounts after a replay

module _ (rules : Rules) (before now : PassesView) (turns : List Turn) (fresh : AreFresh rules before) (gains : Gains before now (all_calls rules turns)) where
  still : (client : ℕ) (d : Client) → client < length rules.clients → (client_at now client).limit ≡ client_limit (get_or rules.clients client d)
  still client d low = (gains.clients client).limit ∙ ap (λ (v : View). v.limit) (fresh_at rules before client d fresh low)

  alone : (client : ℕ) (d : Client) → client < length rules.clients → (client_at now client).seen ≡ entries_for client 0 0 (all_calls rules turns)
  alone client d low =
      let new = fresh_at rules before client d fresh low in
      let unnamed = ap (λ label. label.name) fresh.label in
      (gains.clients client).alone unnamed (ap (λ (v : View). v.splits) new)
      ∙ (ap₂ (λ (v : View) entries. v.seen ++ entries) new (ap₂ (λ name made. entries_for client name made (all_calls rules turns)) unnamed fresh.made))

  account_at : (client : ℕ) (d : Client) → client < length rules.clients → account_seen (client_at now client) ≡ account_after rules turns client (get_or rules.clients client d)
  account_at client d low = ap₂ (λ limit seen. account_of (state_after limit seen)) (still client d low) (alone client d low)

  as_many : length now.clients ≡ length rules.clients
  as_many = sym (length-map now.clients limit_of) ∙ (ap length gains.limits ∙ (length-map before.clients limit_of ∙ fresh_count rules before fresh))

  same_accounts : (views : List View) (clients : List Client) (place : ℕ) → length views ≡ length clients
      → ((k : ℕ) (d : Client) → k < length clients → account_seen (get_or views k no_view) ≡ account_after rules turns (place + k) (get_or clients k d))
      → map account_seen views ≡ accounts_from rules turns place clients
  same_accounts [] [] place same each = refl
  same_accounts (view ∷ views) (client ∷ clients) place same each = ap₂ (λ one more. one ∷ more)
      (subst (λ at. account_seen view ≡ account_after rules turns at client) (omega (arith)) (each 0 client (omega (arith))))
      (same_accounts views clients (place + 1) (omega (arith, same)) (λ k d low. subst (λ at. account_seen (get_or views k no_view) ≡ account_after rules turns at (get_or clients k d)) (omega (arith)) (each (suc k) d (omega (arith, low)))))
  same_accounts [] (client ∷ clients) place same each = absurd (omega (arith, same))
  same_accounts (view ∷ views) [] place same each = absurd (omega (arith, same))

  legal_at : KnowsClients now.label now.made now.clients → (client : ℕ) (d : Client) → client < length rules.clients → IsLegal (client_limit (get_or rules.clients client d)) (entries_for client 0 0 (all_calls rules turns))
  legal_at knows client d low =
      subst (λ limit. IsLegal limit (entries_for client 0 0 (all_calls rules turns))) (still client d low)
      (subst (IsLegal (client_at now client).limit) (alone client d low) (knows client (subst (λ n. client < n) (sym as_many) low)).legal)

pub ends_as : (rules : Rules) (before now : PassesView) (script : List StepData) (end : ReplayEnd) → AreFresh rules before → Replays rules before script end.report now
    → KnowsClients now.label now.made now.clients → end.totals.clients.items.items ≡ rules.clients → end.totals.accounts ≡ map account_seen now.clients → EndsAs rules script end
ends_as rules before now script end fresh h knows clients accounts = record {
  replays = record {
    turns = h.turns;
    is_report = subst (λ made. IsReportOf rules made script h.turns end.report) fresh.made h.is_report;
    legal = legal_at rules before now h.turns fresh h.calls knows;
  };
  clients = clients;
  accounts = accounts ∙ same_accounts rules before now h.turns fresh h.calls now.clients rules.clients 0 (as_many rules before now h.turns fresh h.calls)
      (λ k d low. subst (λ at. account_seen (client_at now k) ≡ account_after rules h.turns at (get_or rules.clients k d)) (omega (arith)) (account_at rules before now h.turns fresh h.calls k d low));
}

-- ---- an end can be written

smaller_within : (most c : Cost) → Within most (smaller most c)
smaller_within most c = record { types = min-le_left most.types c.types; fields = min-le_left most.fields c.fields }

charged_within : (lines : List Line) → Within greatest (all_charged lines)
charged_within lines = smaller_within greatest (total (map (λ (told_line : Line). charge_of told_line.told) lines))

pub printable : (rules : Rules) (script : List StepData) (end : ReplayEnd) → EndsAs rules script end → MayBeServed rules.seconds rules.clients → IsPrintable end
printable rules script end ends served = record {
  some = subst (λ clients. 0 < length clients) (sym ends.clients) served.some;
  few = subst (λ clients. length clients ≤ 1000) (sym ends.clients) served.few;
  charged = subst (Within greatest) (sym ends.replays.is_report.reports.charged) (charged_within (all_lines ends.replays.turns));
}

-- ---- how an end is written

-- the lines of clients, of which there is one, end with a line end
pub ends_line : (front : List ℕ) (clients : List Client) (accounts : List Account) → length accounts ≡ length clients → 0 < length clients → IsLine (front ++ client_lines clients accounts)
ends_line front [] accounts same some = absurd (omega (arith, some))
ends_line front (client ∷ clients) [] same some = absurd (omega (arith, same))
ends_line front (client ∷ []) (account ∷ accounts) same some =
    (front ++ client_text client account, ap (λ text. front ++ text) (append-nil (line (client_text client account))) ∙ sym (append_assoc front (client_text client account) (10 ∷ [])))
ends_line front (client ∷ next ∷ clients) (account ∷ accounts) same some =
    let later = ends_line (front ++ line (client_text client account)) (next ∷ clients) accounts (omega (arith, same)) (omega (arith)) in
    (later.0, sym (append_assoc front (line (client_text client account)) (client_lines (next ∷ clients) accounts)) ∙ later.1)

-- the lines of the first clients, and of one more
pub one_more : (clients : List Client) (accounts : List Account) (k : ℕ) (client : Client) (account : Account) → k < length clients → k < length accounts
    → client ≡ get_or clients k client → account ≡ get_or accounts k account → client_lines (take (k + 1) clients) (take (k + 1) accounts) ≡ client_lines (take k clients) (take k accounts) ++ line (client_text client account)
one_more [] accounts k client account low also is_client is_account = absurd (omega (arith, low))
one_more (c ∷ cs) [] k client account low also is_client is_account = absurd (omega (arith, also))
one_more (c ∷ cs) (a ∷ rest) zero client account low also is_client is_account = ap₂ (λ x y. line (client_text x y) ++ []) (sym is_client) (sym is_account) ∙ append-nil (line (client_text client account))
one_more (c ∷ cs) (a ∷ rest) (suc k) client account low also is_client is_account =
    let counted : suc (k + 1) ≡ suc k + 1 = omega (arith) in
    subst (λ n. client_lines (take n (c ∷ cs)) (take n (a ∷ rest)) ≡ client_lines (take (suc k) (c ∷ cs)) (take (suc k) (a ∷ rest)) ++ line (client_text client account)) counted
    (ap (λ text. line (client_text c a) ++ text) (one_more cs rest k client account (omega (arith, low)) (omega (arith, also)) is_client is_account)
    ∙ sym (append_assoc (line (client_text c a)) (client_lines (take k cs) (take k rest)) (line (client_text client account))))

-- the lines that were written so far, and one more
pub one_line_more : (clients : List Client) (accounts : List Account) (k : ℕ) (client : Client) (account : Account) (front so_far new : List ℕ) → k < length clients → k < length accounts
    → client ≡ get_or clients k client → account ≡ get_or accounts k account → so_far ≡ front ++ client_lines (take k clients) (take k accounts) → new ≡ so_far ++ line (client_text client account)
    → new ≡ front ++ client_lines (take (k + 1) clients) (take (k + 1) accounts)
one_line_more clients accounts k client account front so_far new low also is_client is_account before added =
    added ∙ (ap (λ text. text ++ line (client_text client account)) before
    ∙ (append_assoc front (client_lines (take k clients) (take k accounts)) (line (client_text client account))
    ∙ ap (λ text. front ++ text) (sym (one_more clients accounts k client account low also is_client is_account))))

-- the lines of all that are in both lists
pub all_written : (clients : List Client) (accounts : List Account) (n : ℕ) → min (length clients) (length accounts) ≤ n → client_lines (take n clients) (take n accounts) ≡ client_lines clients accounts
all_written [] accounts zero enough = refl
all_written [] accounts (suc n) enough = refl
all_written (c ∷ cs) [] zero enough = refl
all_written (c ∷ cs) [] (suc n) enough = refl
all_written (c ∷ cs) (a ∷ rest) zero enough = absurd (omega (arith, enough))
all_written (c ∷ cs) (a ∷ rest) (suc n) enough = ap (λ text. line (client_text c a) ++ text) (all_written cs rest n (omega (arith, enough)))

-- ---- what texts come to

pub replayed_that : (texts : ReplayTexts) (undeclared : ℕ) (work : Option ℕ) (end : ReplayEnd) (P : ReplayEnd → Type 0) → IsReplayed texts undeclared work (λ other. other ≡ end) → P end → IsReplayed texts undeclared work P
replayed_that texts undeclared work end P replayed holds = (replayed.0, replayed.1, (replayed.2.0, replayed.2.1, subst P (sym replayed.2.2) holds))

pub replay_told : (name : List ℕ) (texts : ReplayTexts) (undeclared : ℕ) (work : Option ℕ) (end : ReplayEnd) (outcome : Outcome) → IsReplayed texts undeclared work (λ other. other ≡ end)
    → (outcome ≡ Memory) ⊎ IsWritten end outcome → ReplayOf name texts undeclared work outcome
replay_told name texts undeclared work end outcome replayed (inl memory) = inl memory
replay_told name texts undeclared work end outcome replayed (inr written) = inr (inl (replayed_that texts undeclared work end (λ other. IsWritten other outcome) replayed written))

-- The accounts of clients, through first passes that were fresh, were split for each tour and joined again.
use Rattle.std.proofs.Common.{◌≡◌, inl, inr, ℕ, zero, suc, ◌+◌, ◌<◌, List, [], ◌∷◌, ◌++◌, length, map, sym, ap, ◌∙◌, subst, arith, get_or}
use Rattle.std.proofs.lemmas.List.{length-map, get_or-map}
use Rattle.account_core.specs.declared.Account.{Account}
use Rattle.account_core.specs.declared.Limit.{Limit}
use Rattle.account_core.specs.Machine.{Entry, account_of}
use Rattle.account_core.specs.History.{IsLegal, entries_by, state_after}
use Rattle.account_core.specs.Sums.{KeepsAllowance, open_grants}
use Rattle.account_cells.specs.Views.{View, EndedCaller, no_view, no_limit, first_view}
use Rattle.account_cells.specs.Outcomes.{SeesEnded, SeesCallers}
use Rattle.account_shared.specs.Views.{Label, PassesView, AccountsView, Belongs, KnowsClient, IsIdle, ClosesTo, limit_of, client_at, account_seen}
use Rattle.account_shared.specs.Gains.{entries_for}
use Rattle.client_files.specs.declared.client.Client.{Client}
use Rattle.gateway_workers.specs.Decisions.{Rules, client_limit, AreFresh}
use Rattle.gateway_workers.proofs.FreshAccounts.{fresh_at, fresh_count}
use Rattle.gateway_workers.specs.Tours.{Tour, calls_in}
use Rattle.gateway_workers.specs.Joins.{ended_by, HasJoined, JoinTours}
use Rattle.gateway_serving.specs.Histories.{IsHistoryOf, AreAccountsAfter}

-- ---- fresh passes

fresh_any : (rules : Rules) (p : PassesView) (client : ℕ) → AreFresh rules p → client < length rules.clients → client_at p client ≡ first_view (get_or (map client_limit rules.clients) client no_limit)
fresh_any rules p client fresh low = ap (λ views. get_or views client no_view) fresh.clients
    ∙ get_or-map first_view (map client_limit rules.clients) client no_limit no_view (subst (λ n. client < n) (sym (length-map rules.clients client_limit)) low)

-- ---- the entries of a client

-- The entries that are kept for the caller of a tour are all that are seen of it.
seen_of : (seen : List Entry) (client splits : ℕ) (tours : List Tour) (others : List EndedCaller) (place name : ℕ) (d : Tour) → SeesEnded seen (ended_by client splits tours ++ others) → place < length tours → name ≡ splits + (place + 1)
    → entries_by name seen ≡ entries_for client name 0 (calls_in (get_or tours place d).runs)
unfolding ended_by
seen_of seen client splits [] others place name d sees low is = absurd (omega (arith, low))
seen_of seen client splits (tour ∷ tours) others zero name d sees low is =
    let same : splits + 1 ≡ name = omega (arith, is) in
    subst (λ n. entries_by n seen ≡ entries_for client n 0 (calls_in tour.runs)) same sees.0
seen_of seen client splits (tour ∷ tours) others (suc place) name d sees low is = seen_of seen client (splits + 1) tours others place name d sees.1 (omega (arith, low)) (omega (arith, is))

-- ---- one client

-- what is known of it once all passes are joined, where it had a first view
is_history : (limit : Limit) (client splits : ℕ) (tours : List Tour) (before now : View) → splits ≡ 0 → before ≡ first_view limit → HasJoined client splits tours before now → now.limit ≡ limit → now.name ≡ 0
    → entries_by now.name now.seen ≡ now.own → now.splits ≡ length tours → SeesCallers now → IsHistoryOf limit client tours now.seen
is_history limit client splits tours before now never first joined same_limit unnamed own many sees = record {
  legal = subst (λ (l : Limit). IsLegal l now.seen) same_limit joined.kept.legal;
  kept = subst (λ (l : Limit). KeepsAllowance l now.seen) same_limit joined.kept.kept;
  each = λ place d low.
      let ended : now.ended ≡ ended_by client 0 tours ++ [] =
      joined.ended ∙ ((λ i. ended_by client (never i) tours ++ (ap (λ (v : View). v.ended) first) i)) in
      seen_of now.seen client 0 tours [] place (place + 1) d (subst (λ (callers : List EndedCaller). SeesEnded now.seen callers) ended sees.ended) low (omega arith);
  no_others = λ caller other. elim other [
    | inl none ↦ subst (λ n. entries_by n now.seen ≡ []) (unnamed ∙ sym none) (own ∙ (joined.own ∙ ap (λ (v : View). v.own) first))
    | inr past ↦ sees.none_past caller (subst (λ n. n < caller) (sym many) past)
  ];
}

-- ---- all clients

pub record HasRun (rules : Rules) (accounts : AccountsView) (tours : List Tour) (before now : PassesView) : Type 0 where
  pub fresh : AreFresh rules before
  pub belonged : Belongs before accounts
  pub belong : Belongs now accounts
  pub joined : JoinTours before.label.splits tours before now

count_after : (rules : Rules) (accounts : AccountsView) (tours : List Tour) (before now : PassesView) → HasRun rules accounts tours before now → length now.clients ≡ length rules.clients
count_after rules accounts tours before now run = run.joined.count ∙ fresh_count rules before run.fresh

limit_after : (rules : Rules) (accounts : AccountsView) (tours : List Tour) (before now : PassesView) (client : ℕ) (c : Client) → HasRun rules accounts tours before now → client < length rules.clients
    → (client_at now client).limit ≡ client_limit (get_or rules.clients client c)
limit_after rules accounts tours before now client c run low =
    let low_before : client < length before.clients = subst (λ n. client < n) (sym (fresh_count rules before run.fresh)) low in
    let low_now : client < length now.clients = subst (λ n. client < n) (sym (count_after rules accounts tours before now run)) low in
    sym (get_or-map limit_of now.clients client no_view no_limit low_now)
    ∙ (ap (λ (ls : List Limit). get_or ls client no_limit) (run.belong.limits ∙ sym run.belonged.limits)
    ∙ (get_or-map limit_of before.clients client no_view no_limit low_before ∙ ap limit_of (fresh_at rules before client c run.fresh low)))

history_after : (rules : Rules) (accounts : AccountsView) (tours : List Tour) (before now : PassesView) (client : ℕ) (c : Client) → HasRun rules accounts tours before now → client < length rules.clients
    → IsHistoryOf (client_limit (get_or rules.clients client c)) client tours (client_at now client).seen
history_after rules accounts tours before now client c run low =
    let low_before : client < length before.clients = subst (λ n. client < n) (sym (fresh_count rules before run.fresh)) low in
    let low_now : client < length now.clients = subst (λ n. client < n) (sym (count_after rules accounts tours before now run)) low in
    let known : KnowsClient now.label now.made (client_at now client) = run.belong.known client low_now in
    let never : before.label.splits ≡ 0 = ap (λ (l : Label). l.splits) run.fresh.label in
    let unnamed : (client_at now client).name ≡ 0 = ap (λ (l : Label). l.name) known.same_label ∙ (run.joined.name ∙ ap (λ (l : Label). l.name) run.fresh.label) in
    let parted : (client_at now client).splits ≡ now.label.splits = ap (λ (l : Label). l.splits) known.same_label in
    let many : (client_at now client).splits ≡ length tours = omega (arith, parted, run.joined.splits_are, never) in
    is_history (client_limit (get_or rules.clients client c)) client before.label.splits tours (client_at before client) (client_at now client) never (fresh_at rules before client c run.fresh low)
    (run.joined.clients client low_before) (limit_after rules accounts tours before now client c run low) unnamed known.own many (known.callers unnamed)

-- the accounts that are told when they are closed
pub accounts_after : (rules : Rules) (accounts : AccountsView) (tours : List Tour) (before now : PassesView) (told : List Account) → HasRun rules accounts tours before now → told ≡ map account_seen now.clients
    → ((k : ℕ) → k < length now.clients → ClosesTo (client_at now k) (account_seen (client_at now k))) → AreAccountsAfter rules.clients tours told
accounts_after rules accounts tours before now told run are closed =
    let count = count_after rules accounts tours before now run in
    record {
      count = ap (λ (l : List Account). length l) are ∙ (length-map now.clients account_seen ∙ count);
      each = λ client c a low.
          let low_now : client < length now.clients = subst (λ n. client < n) (sym count) low in
          let here : get_or told client a ≡ account_seen (client_at now client) =
          ap (λ (l : List Account). get_or l client a) are ∙ get_or-map account_seen now.clients client no_view a low_now in
          record {
            history = (client_at now client).seen;
            is_history = history_after rules accounts tours before now client c run low;
            same = here ∙ ap (λ (limit : Limit). account_of (state_after limit (client_at now client).seen)) (limit_after rules accounts tours before now client c run low);
            idle = ap (λ (account : Account). account.held) here ∙ (closed client low_now).idle;
          };
    }

-- ---- what closing asks for

pub is_idle : (rules : Rules) (accounts : AccountsView) (tours : List Tour) (before now : PassesView) → HasRun rules accounts tours before now → IsIdle now
is_idle rules accounts tours before now run client low_now =
    let low : client < length rules.clients = subst (λ n. client < n) (count_after rules accounts tours before now run) low_now in
    let low_before : client < length before.clients = subst (λ n. client < n) (sym (fresh_count rules before run.fresh)) low in
    ap open_grants ((run.joined.clients client low_before).own ∙ ap (λ (v : View). v.own) (fresh_any rules before client run.fresh low))

pub nobody_out : (rules : Rules) (accounts : AccountsView) (tours : List Tour) (before now : PassesView) → HasRun rules accounts tours before now → now.label.out ≡ []
nobody_out rules accounts tours before now run = run.joined.out ∙ ap (λ (l : Label). l.out) run.fresh.label

pub still_first : (rules : Rules) (accounts : AccountsView) (tours : List Tour) (before now : PassesView) → HasRun rules accounts tours before now → now.label.name ≡ 0
still_first rules accounts tours before now run = run.joined.name ∙ ap (λ (l : Label). l.name) run.fresh.label

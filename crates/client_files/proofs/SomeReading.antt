-- Each text has a reading.
use Rattle.std.proofs.Common.{◌≡◌, ℕ, zero, suc, ◌+◌, ◌<◌, ◌≤◌, ◌⊎◌, inl, inr, List, [], ◌∷◌, ◌++◌, length, refl, sym, ap, ◌∙◌, subst, arith, true, false, Option, Some, None}
use Rattle.std.proofs.lemmas.Bool.{cases_lt}
use Rattle.std.proofs.lemmas.List.{length-map, take_all}
use Rattle.gql_base.specs.names.Names.{are_distinct, first_repeated}
use Rattle.gql_base.proofs.NameLaws.RepeatedLaws.{before_distinct, with_it_repeated}
use Rattle.client_files.specs.Limits.{client_limit}
use Rattle.client_files.specs.declared.client.Client.{Client}
use Rattle.client_files.specs.declared.fault.ClientsFault.{ClientsFault}
use Rattle.client_files.specs.declared.fault.ClientsFault.TheVariants.{BadLine, Repeated, TooMany, NoClient}
use Rattle.client_files.specs.declared.heading.Version.{Version}
use Rattle.client_files.specs.Headings.{version_line, IsWindowLine}
use Rattle.client_files.specs.ClientLines.{IsClientLine}
use Rattle.client_files.specs.ClientFiles.{AreClientLines, AreFileLines, keys_of}
use Rattle.client_files.specs.Faults.{IsFirstFault}
use Rattle.client_files.specs.Fronts.{NamesNone, IsFront}
use Rattle.client_files.proofs.FirstFaults.{no_lines, one_line, bad_version, bad_window}
use Rattle.client_files.proofs.LeadingClients.{tells_repeated, tells_too_many, tells_bad, tells_none, serves}
use Rattle.client_files.proofs.DecidedLines.{version_decided, window_decided, client_line_decided}

-- a front of the lines names clients, no more than so many; nothing is left, or there are that many, or the next line names
-- none
record Leads (most : ℕ) (version : Version) (lines : List (List ℕ)) : Type 0 where
  clients : List Client
  front : List (List ℕ)
  left : List (List ℕ)
  cut : lines ≡ front ++ left
  named : AreClientLines version front clients
  few : length clients ≤ most
  ends : (left ≡ []) ⊎ ((length clients ≡ most) ⊎ NamesNone version left)

ends_later : (most : ℕ) (version : Version) (left : List (List ℕ)) (clients : List Client) (client : Client) → (left ≡ []) ⊎ ((length clients ≡ most) ⊎ NamesNone version left)
    → (left ≡ []) ⊎ ((length (client ∷ clients) ≡ suc most) ⊎ NamesNone version left)
ends_later most version left clients client (inl none) = inl none
ends_later most version left clients client (inr (inl full)) = inr (inl (ap suc full))
ends_later most version left clients client (inr (inr bad)) = inr (inr bad)

leads_more : (most : ℕ) (version : Version) (line : List ℕ) (lines : List (List ℕ)) (client : Client) → IsClientLine version line client → Leads most version lines → Leads (suc most) version (line ∷ lines)
leads_more most version line lines client is rest = record {
  clients = client ∷ rest.clients;
  front = line ∷ rest.front;
  left = rest.left;
  cut = ap (λ ls. line ∷ ls) rest.cut;
  named = (is, rest.named);
  few = omega (arith, rest.few);
  ends = ends_later most version rest.left rest.clients client rest.ends;
}

leads : (most : ℕ) (version : Version) (lines : List (List ℕ)) → Leads most version lines
leads zero version lines = record { clients = []; front = []; left = lines; cut = refl; named = tt; few = omega arith; ends = inr (inl refl) }
leads (suc most) version [] = record { clients = []; front = []; left = []; cut = refl; named = tt; few = omega arith; ends = inl refl }
leads (suc most) version (line ∷ lines) = elim (client_line_decided version line) [
  | inl found ↦ leads_more most version line lines found.0 found.1 (leads most version lines)
  | inr none ↦ record { clients = []; front = []; left = line ∷ lines; cut = refl; named = tt; few = omega arith; ends = inr (inr none) }
]

-- a repeated name is one of the names
repeated_within : (names : List (List ℕ)) (at : ℕ) → first_repeated names ≡ Some at → at < length names
repeated_within names at found = elim (cases_lt at (length names)) [
  | inl within ↦ within
  | inr past ↦
      let before : are_distinct names ≡ true = sym (ap are_distinct (take_all at names past)) ∙ before_distinct names at found in
      let with_it : are_distinct names ≡ false = sym (ap are_distinct (take_all (at + 1) names (omega (arith, past)))) ∙ with_it_repeated names at found in
      absurd cc
]

-- lines are those of a file, or have a first fault
abbrev pub Answered : List (List ℕ) → Type 0
Answered lines = ((seconds : ℕ) × (clients : List Client) × AreFileLines lines seconds clients) ⊎ ((fault : ClientsFault) × IsFirstFault lines fault)

module _ (version : Version) (second : List ℕ) (seconds : ℕ) (window : IsWindowLine second seconds) (lines : List (List ℕ)) (clients : List Client) (f : IsFront version lines clients) where
  file_lines : length lines ≤ length clients → length clients ≤ client_limit → 0 < length clients → None ≡ first_repeated (keys_of clients) → AreFileLines (version_line version ∷ second ∷ lines) seconds clients
  file_lines all few some none =
      let served = serves version lines clients f all few some none in
      record { version = version; second = second; further = lines; cut = refl; window = window; named = served.named; some = served.some; few = served.few; distinct = served.distinct }

  answered_keys : (found : Option ℕ) → found ≡ first_repeated (keys_of clients) → Answered (version_line version ∷ second ∷ lines)
  answered_keys (Some at) is =
      let low = repeated_within (keys_of clients) at (sym is) in
      inr (Repeated (3 + at), tells_repeated version lines clients f at (omega (arith, low, length-map clients (λ (client : Client). client.key))) is second seconds window)
  answered_keys None is = elim (cases_lt client_limit (length clients)) [
    | inl past ↦ inr (TooMany 1003, tells_too_many version lines clients f past is second seconds window)
    | inr few ↦ elim (cases_lt (length clients) (length lines)) [
      | inl short ↦ inr (BadLine (3 + length clients), tells_bad version lines clients f few short is second seconds window)
      | inr all ↦ elim (cases_lt 0 (length clients)) [
        | inl some ↦ inl (seconds, clients, file_lines all few some is)
        | inr none ↦ inr (NoClient, tells_none version lines clients f all (omega (arith, none)) second seconds window)
      ]
    ]
  ]

answered_clients : (version : Version) (second : List ℕ) (seconds : ℕ) → IsWindowLine second seconds → (lines : List (List ℕ)) → Leads (client_limit + 1) version lines → Answered (version_line version ∷ second ∷ lines)
answered_clients version second seconds window lines led =
    answered_keys version second seconds window lines led.clients (record { front = led.front; left = led.left; cut = led.cut; named = led.named; most = led.few; ends = led.ends }) (first_repeated (keys_of led.clients)) refl

answered_window : (first : List ℕ) (rest : List (List ℕ)) (version : Version) → first ≡ version_line version → Answered (first ∷ rest)
answered_window first [] version is = inr (NoClient, one_line first version is)
answered_window first (second ∷ further) version is = elim (window_decided second) [
  | inr none ↦ inr (BadLine 2, bad_window first second further version is none)
  | inl given ↦ subst (λ line. Answered (line ∷ second ∷ further)) (sym is) (answered_clients version second given.0 given.1 further (leads (client_limit + 1) version further))
]

pub answered : (lines : List (List ℕ)) → Answered lines
answered [] = inr (NoClient, no_lines)
answered (first ∷ rest) = elim (version_decided first) [
  | inr none ↦ inr (BadLine 1, bad_version first rest none)
  | inl given ↦ answered_window first rest given.0 given.1
]

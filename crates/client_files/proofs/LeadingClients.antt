-- The clients that the first lines name.
use Rattle.std.proofs.Common.{◌≡◌, ℕ, zero, suc, ◌+◌, ◌<◌, ◌≤◌, ◌⊎◌, inl, inr, List, [], ◌∷◌, ◌++◌, length, take, drop, get_or, map, refl, sym, ap, ◌∙◌, subst, arith, true, false, Bor, Some, None}
use Rattle.std.specs.Prelude.{◌==◌}
use Rattle.std.proofs.lemmas.Bool.{eqb-true}
use Rattle.std.proofs.lemmas.List.{length-append, length-map, append-nil, take-append-drop, take_more, drop_more}
use Rattle.std.proofs.Math.ListN.{get_or-map, drop_of_length-le}
use Rattle.gql_base.specs.names.Names.{first_repeated}
use Rattle.gql_base.proofs.NameLaws.RepeatedLaws.{none_distinct, before_distinct, with_it_repeated}
use Rattle.client_files.specs.Limits.{client_limit}
use Rattle.client_files.specs.declared.client.Client.{Client}
use Rattle.client_files.specs.declared.fault.ClientsFault.TheVariants.{BadLine, Repeated, TooMany, NoClient}
use Rattle.client_files.specs.declared.heading.Version.{Version}
use Rattle.client_files.specs.Headings.{version_line, IsWindowLine}
use Rattle.client_files.specs.ClientLines.{IsClientLine}
use Rattle.client_files.specs.ClientFiles.{AreClientLines, keys_of}
use Rattle.client_files.specs.Faults.{IsFirstFault}
use Rattle.client_files.specs.Fronts.{NamesNone, IsFront, AreServed, NamesSoFar}
use Rattle.client_files.proofs.ClientLists.{named_more, named_length}
use Rattle.client_files.proofs.GoodLines.{repeats, exceeds, breaks, names_none}

-- the loop over the lines

pub none_so_far : (version : Version) (lines : List (List ℕ)) (clients : List Client) → clients ≡ [] → NamesSoFar version lines clients 0
none_so_far version lines clients none = subst (λ cs. NamesSoFar version lines cs 0) (sym none) (record { named = tt; counted = refl; most = omega arith })

line_at : (lines : List (Bor (List ℕ))) (at : ℕ) (other : Bor (List ℕ)) → get_or (map (λ line. line.now) lines) at other.now ≡ (get_or lines at other).now
line_at lines at other = get_or-map (λ line. line.now) lines at other

below : (lines : List (Bor (List ℕ))) (at : ℕ) → at < length lines → at < length (map (λ line. line.now) lines)
below lines at low = omega (arith, low, length-map lines (λ (line : Bor (List ℕ)). line.now))

module _ (version : Version) (lines : List (Bor (List ℕ))) (clients : List Client) (at : ℕ) (so_far : NamesSoFar version (map (λ line. line.now) lines) clients at) where
  pub one_more : (other : Bor (List ℕ)) (client : Client) (more : List Client) → at < length lines → length clients ≤ client_limit → IsClientLine version (get_or lines at other).now client → more ≡ clients ++ client ∷ []
      → NamesSoFar version (map (λ line. line.now) lines) more (at + 1)
  one_more other client more low few named is =
      let taken = take_more (map (λ line. line.now) lines) at other.now (below lines at low) ∙ ap (λ l. take at (map (λ line. line.now) lines) ++ l ∷ []) (line_at lines at other) in
      let all = named_more version (take at (map (λ line. line.now) lines)) clients (get_or lines at other).now client so_far.named named in
      record {
        named = subst (λ cs. AreClientLines version (take (at + 1) (map (λ line. line.now) lines)) cs) (sym is) (subst (λ ls. AreClientLines version ls (clients ++ client ∷ [])) (sym taken) all);
        counted = omega (arith, ap length is, length-append clients (client ∷ []), so_far.counted);
        most = omega (arith, ap length is, length-append clients (client ∷ []), few);
      }

  front_of : (drop at (map (λ line. line.now) lines) ≡ []) ⊎ ((length clients ≡ client_limit + 1) ⊎ NamesNone version (drop at (map (λ line. line.now) lines))) → IsFront version (map (λ line. line.now) lines) clients
  front_of ends = record {
    front = take at (map (λ line. line.now) lines);
    left = drop at (map (λ line. line.now) lines);
    cut = sym (take-append-drop at (map (λ line. line.now) lines));
    named = so_far.named;
    most = so_far.most;
    ends = ends;
  }

  pub full_front : client_limit < length clients → IsFront version (map (λ line. line.now) lines) clients
  full_front past = front_of (inr (inl (omega (arith, past, so_far.most))))

  pub broken_front : (other : Bor (List ℕ)) → at < length lines → ((client : Client) → ¬ (IsClientLine version (get_or lines at other).now client)) → IsFront version (map (λ line. line.now) lines) clients
  broken_front other low none = front_of (inr (inr (subst (NamesNone version) (sym (drop_more (map (λ line. line.now) lines) at other.now (below lines at low)
      ∙ ap (λ l. l ∷ drop (at + 1) (map (λ line. line.now) lines)) (line_at lines at other))) none)))

  pub whole_front : length lines ≤ at → IsFront version (map (λ line. line.now) lines) clients
  whole_front end = front_of (inl (drop_of_length-le (map (λ line. line.now) lines) (omega (arith, end, length-map lines (λ (line : Bor (List ℕ)). line.now)))))

-- what is told of them

module _ (version : Version) (lines : List (List ℕ)) (clients : List Client) (f : IsFront version lines clients) where
  count : length f.front ≡ length clients
  count = named_length version f.front clients f.named

  total : length lines ≡ length clients + length f.left
  total = ap length f.cut ∙ (length-append f.front f.left ∙ ap (λ n. n + length f.left) count)

  pub tells_repeated : (at : ℕ) → at < length clients → Some at ≡ first_repeated (keys_of clients) → (second : List ℕ) (seconds : ℕ) → IsWindowLine second seconds → IsFirstFault (version_line version ∷ second ∷ lines) (Repeated (3 + at))
  tells_repeated at low found second seconds window =
      subst (λ n. IsFirstFault (version_line version ∷ second ∷ lines) (Repeated n)) {x = at + 2 + 1} {y = 3 + at} (omega arith)
      (repeats version second seconds window lines f.front f.left f.cut clients f.named at (omega (arith, low, count)) (omega (arith, count, f.most))
      (before_distinct (keys_of clients) at (sym found)) (with_it_repeated (keys_of clients) at (sym found)))

  pub tells_too_many : client_limit < length clients → None ≡ first_repeated (keys_of clients) → (second : List ℕ) (seconds : ℕ) → IsWindowLine second seconds → IsFirstFault (version_line version ∷ second ∷ lines) (TooMany 1003)
  tells_too_many past none second seconds window =
      exceeds version second seconds window lines f.front f.left f.cut clients f.named (omega (arith, count, past, f.most)) (none_distinct (keys_of clients) (sym none))

  ends_bad : length clients ≤ client_limit → length clients < length lines → NamesNone version f.left
  ends_bad few short = elim (f.ends) [
    | inl none ↦ absurd (omega (arith, short, total, ap length none))
    | inr more ↦ elim more [
      | inl full ↦ absurd (omega (arith, full, few))
      | inr bad ↦ bad
    ]
  ]

  pub tells_bad : length clients ≤ client_limit → length clients < length lines → None ≡ first_repeated (keys_of clients) → (second : List ℕ) (seconds : ℕ) → IsWindowLine second seconds
      → IsFirstFault (version_line version ∷ second ∷ lines) (BadLine (3 + length clients))
  tells_bad few short none second seconds window = by_left f.left refl (ends_bad few short)
    where
      by_left : (left : List (List ℕ)) → f.left ≡ left → NamesNone version left → IsFirstFault (version_line version ∷ second ∷ lines) (BadLine (3 + length clients))
      by_left [] is bad = absurd bad
      by_left (line ∷ more) is bad =
          subst (λ n. IsFirstFault (version_line version ∷ second ∷ lines) (BadLine n)) {x = length f.front + 2 + 1} {y = 3 + length clients} (omega (arith, count))
          (breaks version second seconds window lines f.front f.left f.cut clients f.named (omega (arith, count, few)) (none_distinct (keys_of clients) (sym none)) line more is bad)

  empty : (ls : List (List ℕ)) → length ls ≡ 0 → ls ≡ []
  empty [] none = refl
  empty (l ∷ ls) none = absurd (omega (arith, none))

  pub tells_none : length lines ≤ length clients → length clients ≡ 0 → (second : List ℕ) (seconds : ℕ) → IsWindowLine second seconds → IsFirstFault (version_line version ∷ second ∷ lines) NoClient
  tells_none all none second seconds window =
      names_none version second seconds window lines f.front f.left f.cut clients f.named (empty f.front (omega (arith, count, none))) (empty f.left (omega (arith, total, all)))

  pub serves : length lines ≤ length clients → length clients ≤ client_limit → 0 < length clients → None ≡ first_repeated (keys_of clients) → AreServed version lines clients
  serves all few some none =
      let no_left = empty f.left (omega (arith, total, all)) in
      let same : lines ≡ f.front = f.cut ∙ (ap (λ l. f.front ++ l) no_left ∙ append-nil f.front) in
      record {
        named = subst (λ ls. AreClientLines version ls clients) (sym same) f.named;
        some = some;
        few = few;
        distinct = none_distinct (keys_of clients) (sym none);
      }

-- whether there are any

pub empty_count : (n there : ℕ) → n ≡ there → true ≡ (n == 0) → there ≡ 0
empty_count n there same is = sym same ∙ eqb-true n 0 (sym is)

pub some_count : (n there : ℕ) → n ≡ there → false ≡ (n == 0) → 0 < there
some_count zero there same is = cc
some_count (suc n) there same is = omega (arith, same)

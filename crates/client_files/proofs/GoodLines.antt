-- Lines of which a front names clients.
use Rattle.std.proofs.Common.{◌≡◌, ℕ, zero, suc, ◌+◌, ◌<◌, ◌≤◌, List, [], ◌∷◌, ◌++◌, length, take, map, refl, sym, ap, ◌∙◌, subst, arith, true, false, append_assoc}
use Rattle.std.specs.List.{list_any}
use Rattle.std.specs.Str.{bytes_eq}
use Rattle.std.proofs.lemmas.List.{map-append, length-map, take_all}
use Rattle.std.proofs.Math.Seq.{take-append_seam, take-append-add}
use Rattle.gql_base.specs.names.Names.{are_distinct}
use Rattle.client_files.specs.Limits.{client_limit}
use Rattle.client_files.specs.declared.client.Client.{Client}
use Rattle.client_files.specs.declared.fault.ClientsFault.TheVariants.{BadLine, Repeated, TooMany, NoClient}
use Rattle.client_files.specs.declared.heading.Version.{Version}
use Rattle.client_files.specs.Headings.{version_line, IsWindowLine}
use Rattle.client_files.specs.ClientLines.{IsClientLine}
use Rattle.client_files.specs.ClientFiles.{AreClientLines, keys_of}
use Rattle.client_files.specs.Faults.{first_word, IsFirstFault}
use Rattle.client_files.proofs.ClientLists.{named_at, named_length, first_words}
use Rattle.client_files.proofs.Distinct.{distinct_push, distinct_front, new_of_distinct, known_of_repeated}
use Rattle.client_files.proofs.FirstFaults.{ArePlaced, AreNew, head, behind, same_version, bad_line, repeated_line, too_many_line, no_client}

-- a line behind some of the front is in the front
cut_front : (front further left : List (List ℕ)) (line : List ℕ) (after : List (List ℕ)) → front ++ left ≡ further ++ (line ∷ after) → length further < length front → (more : List (List ℕ)) × (front ≡ further ++ (line ∷ more))
cut_front [] further left line after e low = absurd (omega (arith, low))
cut_front (f ∷ fs) [] left line after e low = (fs, ap (λ l. head l ∷ fs) e)
cut_front (f ∷ fs) (g ∷ gs) left line after e low =
    let rest = cut_front fs gs left line after (ap behind e) (omega (arith, low)) in
    (rest.0, λ i. head (e i) ∷ rest.1 i)

-- a list at a place of it
pub record At (front : List (List ℕ)) (at : ℕ) : Type 0 where
  pub further : List (List ℕ)
  pub line : List ℕ
  pub more : List (List ℕ)
  pub cut : front ≡ further ++ (line ∷ more)
  pub counted : length further ≡ at

at_place : (front : List (List ℕ)) (at : ℕ) → at < length front → At front at
at_place [] at low = absurd (omega (arith, low))
at_place (f ∷ fs) zero low = record { further = []; line = f; more = fs; cut = refl; counted = refl }
at_place (f ∷ fs) (suc at) low =
    let rest = at_place fs at (omega (arith, low)) in
    record { further = f ∷ rest.further; line = rest.line; more = rest.more; cut = ap (λ l. f ∷ l) rest.cut; counted = ap suc rest.counted }

take_past : (further : List (List ℕ)) (name : List ℕ) (more : List (List ℕ)) (k : ℕ) → length further < k → (rest : List (List ℕ)) × (take k (further ++ (name ∷ more)) ≡ (further ++ (name ∷ [])) ++ rest)
take_past further name more zero low = absurd (omega (arith, low))
take_past [] name more (suc k) low = (take k more, refl)
take_past (f ∷ fs) name more (suc k) low = let rest = take_past fs name more k (omega (arith, low)) in (rest.0, ap (λ l. f ∷ l) rest.1)

-- where the first k names stand once, one of them isn't among those before it
new_at : (further : List (List ℕ)) (name : List ℕ) (more : List (List ℕ)) (k : ℕ) → length further < k → are_distinct (take k (further ++ (name ∷ more))) ≡ true → list_any (bytes_eq name) further ≡ false
new_at further name more k low apart =
    let past = take_past further name more k low in
    let front = distinct_front (further ++ (name ∷ [])) past.0 (sym (ap are_distinct past.1) ∙ apart) in
    new_of_distinct (list_any (bytes_eq name) further) (are_distinct further) (sym (distinct_push further name) ∙ front)

-- and where they don't with one more, that one is
known_at : (further : List (List ℕ)) (name : List ℕ) (more : List (List ℕ)) → are_distinct (take (length further) (further ++ (name ∷ more))) ≡ true → are_distinct (take (length further + 1) (further ++ (name ∷ more))) ≡ false
    → list_any (bytes_eq name) further ≡ true
known_at further name more before with_it =
    let apart = sym (ap are_distinct (take-append_seam further (name ∷ more))) ∙ before in
    let again = sym (ap are_distinct (take-append-add further (name ∷ more) 1)) ∙ with_it in
    known_of_repeated (list_any (bytes_eq name) further) (are_distinct further) apart (sym (distinct_push further name) ∙ again)

module _ (version : Version) (second : List ℕ) (seconds : ℕ) (window : IsWindowLine second seconds) (lines front left : List (List ℕ)) (cut : lines ≡ front ++ left) (clients : List Client) (named : AreClientLines version front clients) where
  pub placed : (number : ℕ) → number ≤ length front + 2 → ArePlaced (version_line version ∷ second ∷ lines) number
  placed number within [] line at comes le = (version, sym (ap head comes.cut))
  placed number within (b ∷ []) line at comes le = (seconds, subst (λ l. IsWindowLine l seconds) (ap (λ ls. head (behind ls)) comes.cut) window)
  placed number within (b ∷ d ∷ further) line at comes le =
      let there = cut_front front further left line comes.after (sym cut ∙ ap (λ ls. behind (behind ls)) comes.cut) (omega (arith, comes.counted, le, within)) in
      (version, sym (ap head comes.cut), named_at version further line there.0 clients (subst (λ ls. AreClientLines version ls clients) there.1 named))

  pub new : (k : ℕ) → k ≤ length front → are_distinct (take k (keys_of clients)) ≡ true → AreNew (version_line version ∷ second ∷ lines) (k + 2)
  new k within apart [] line at comes le again = again
  new k within apart (b ∷ []) line at comes le again = again
  new k within apart (b ∷ d ∷ further) line at comes le again =
      let there = cut_front front further left line comes.after (sym cut ∙ ap (λ ls. behind (behind ls)) comes.cut) (omega (arith, comes.counted, le, within)) in
      let keys : keys_of clients ≡ map first_word further ++ (first_word line ∷ map first_word there.0) = sym (first_words version front clients named) ∙ (ap (map first_word) there.1 ∙ map-append first_word further (line ∷ there.0)) in
      let fresh = new_at (map first_word further) (first_word line) (map first_word there.0) k (omega (arith, comes.counted, le, length-map further first_word)) (sym (ap (λ ks. are_distinct (take k ks)) keys) ∙ apart) in
      cc

  -- the line at this place of the front
  comes_at : (at : ℕ) (there : At front at) → (version_line version ∷ second ∷ lines) ≡ (version_line version ∷ second ∷ there.further) ++ (there.line ∷ (there.more ++ left))
  comes_at at there = ap (λ ls. version_line version ∷ second ∷ ls) (cut ∙ (ap (λ f. f ++ left) there.cut ∙ append_assoc there.further (there.line ∷ there.more) left))

  pub repeats : (at : ℕ) → at < length front → length front ≤ client_limit + 1 → are_distinct (take at (keys_of clients)) ≡ true → are_distinct (take (at + 1) (keys_of clients)) ≡ false → IsFirstFault (version_line version ∷ second ∷ lines) (Repeated (at + 2 + 1))
  repeats at low few before with_it =
      let there = at_place front at low in
      let keys : keys_of clients ≡ map first_word there.further ++ (first_word there.line ∷ map first_word there.more) = sym (first_words version front clients named) ∙ (ap (map first_word) there.cut ∙ map-append first_word there.further (there.line ∷ there.more)) in
      let count : at ≡ length (map first_word there.further) = omega (arith, there.counted, length-map there.further first_word) in
      let apart = sym (ap (λ n. are_distinct (take n (keys_of clients))) count) ∙ before in
      let again = sym (ap (λ n. are_distinct (take (n + 1) (keys_of clients))) count) ∙ with_it in
      let known = known_at (map first_word there.further) (first_word there.line) (map first_word there.more) (sym (ap (λ ks. are_distinct (take (length (map first_word there.further)) ks)) keys) ∙ apart)
      (sym (ap (λ ks. are_distinct (take (length (map first_word there.further) + 1) ks)) keys) ∙ again) in
      repeated_line (version_line version ∷ second ∷ lines) (at + 2) (placed (at + 2 + 1) (omega (arith, low))) (new at (omega (arith, low)) before) (omega (arith, low, few))
      (version_line version ∷ second ∷ there.further, there.line, record { after = there.more ++ left; cut = comes_at at there; counted = omega (arith, there.counted) }, known)

  pub exceeds : length front ≡ client_limit + 1 → are_distinct (keys_of clients) ≡ true → IsFirstFault (version_line version ∷ second ∷ lines) (TooMany (client_limit + 3))
  exceeds full apart =
      let there = at_place front client_limit (omega (arith, full)) in
      let all = take_all (client_limit + 1) (keys_of clients) (omega (arith, length-map clients (λ (client : Client). client.key), named_length version front clients named, full)) in
      too_many_line (version_line version ∷ second ∷ lines) (placed (client_limit + 3) (omega (arith, full))) (new (client_limit + 1) (omega (arith, full)) (ap are_distinct all ∙ apart))
      (version_line version ∷ second ∷ there.further, there.line, record { after = there.more ++ left; cut = comes_at client_limit there; counted = omega (arith, there.counted) }, omega (arith, there.counted))

  keys_all : are_distinct (keys_of clients) ≡ true → are_distinct (take (length front) (keys_of clients)) ≡ true
  keys_all apart = ap are_distinct (take_all (length front) (keys_of clients) (omega (arith, length-map clients (λ (client : Client). client.key), named_length version front clients named))) ∙ apart

  pub all_new : are_distinct (keys_of clients) ≡ true → AreNew (version_line version ∷ second ∷ lines) (length front + 2)
  all_new apart = new (length front) (omega arith) (keys_all apart)

  pub breaks : length front ≤ client_limit → are_distinct (keys_of clients) ≡ true → (line : List ℕ) (more : List (List ℕ)) → left ≡ line ∷ more → ((client : Client) → ¬ (IsClientLine version line client))
      → IsFirstFault (version_line version ∷ second ∷ lines) (BadLine (length front + 2 + 1))
  breaks few apart line more next none =
      bad_line (version_line version ∷ second ∷ lines) (length front + 2) (placed (length front + 2) (omega arith)) (all_new apart) (omega (arith, few)) (
        version_line version ∷ second ∷ front,
        line,
        record { after = more; cut = ap (λ ls. version_line version ∷ second ∷ ls) (cut ∙ ap (λ l. front ++ l) next); counted = omega arith },
        λ stands. none stands.2.0 (subst (λ v. IsClientLine v line stands.2.0) (sym (same_version version stands.0 stands.1)) stands.2.1),
      )

  pub names_none : front ≡ [] → left ≡ [] → IsFirstFault (version_line version ∷ second ∷ lines) NoClient
  names_none no_front no_left =
      let two : length (version_line version ∷ second ∷ lines) ≡ 2 = ap (λ ls. length (version_line version ∷ second ∷ ls)) (cut ∙ (λ i. no_front i ++ no_left i)) in
      no_client (version_line version ∷ second ∷ lines) (placed (length (version_line version ∷ second ∷ lines)) (omega (arith, two))) (λ before line at comes le. new 0 (omega arith) refl before line at comes (omega (arith, le, two))) (omega (arith, two))

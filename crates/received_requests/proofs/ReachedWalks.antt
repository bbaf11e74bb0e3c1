-- The walk over the fragments that another walk met, in their order, meets the first of them, the second, and so on.
use Rattle.std.proofs.Common.{ℕ, zero, suc, ◌+◌, ◌≡◌, ◌<◌, ◌≤◌, ◌||◌, nat_eq, Bool, true, false, true≢false, cond, if◌then◌else◌, List, [], ◌∷◌, ◌++◌, map, length, drop, Option, None, Some, refl, sym, ap, ap₂, ◌∙◌, subst, arith, append-nil, append_assoc, length-append, eq-eqb, ne_eqb}
use Rattle.std.specs.Prelude.{slice_get, option_map}
use Rattle.std.specs.List.{position_from}
use Rattle.std.specs.Str.{bytes_eq}
use Rattle.std.proofs.Math.Bool.{or-true}
use Rattle.std.proofs.lemmas.List.{length-map}
use Rattle.std.proofs.lemmas.Option.{same_Some, slice_get-map}
use Rattle.gql_base.specs.names.Names.{place_of_name}
use Rattle.document_reader.specs.Documents.{SelectionTrees}
use Rattle.document_rules.specs.Parts.{FragmentData, fragment_name}
use Rattle.document_rules.specs.Met.{Met, Spread, spread_within, spreads_within, spreads_in, spreads_of_data, spread_count, met_number, is_met, met_at, look_at, walk, reached}
use Rattle.document_rules.specs.Ranks.{IsBelow, AreBelow, HasRanks}
use Rattle.document_rules.proofs.SpreadSteps.{walk_ends, walk_looks}
use Rattle.received_requests.proofs.ReachedNames.{datas_met, AreFirst, walk_longer, numbered, places_of_names, places_met, data_at}

-- ---- numbers in their order

-- the same fragments with the numbers from i on
abbrev pub renumbered : ℕ → List Met → List Met
renumbered i [] = []
renumbered i (m ∷ ms) = met_at i m.within ∷ renumbered (suc i) ms

renumbered_length : (i : ℕ) (ms : List Met) → length (renumbered i ms) ≡ length ms
renumbered_length i [] = refl
renumbered_length i (m ∷ ms) = ap suc (renumbered_length (suc i) ms)

renumbered_more : (i place : ℕ) (ms : List Met) (number : ℕ) (within : Option ℕ) → place ≡ i + length ms → renumbered i (ms ++ (met_at number within ∷ [])) ≡ renumbered i ms ++ (met_at place within ∷ [])
renumbered_more i place [] number within is = let e : i ≡ place = omega (arith, is) in ap (λ (n : ℕ). met_at n within ∷ []) e
renumbered_more i place (m ∷ ms) number within is = ap (λ (l : List Met). met_at i m.within ∷ l) (renumbered_more (suc i) place ms number within (omega (arith, is)))

-- those from i on are met, as many as there are
later_met : (i index place : ℕ) (ms : List Met) → place ≡ i + index → index < length ms → is_met (renumbered i ms) place ≡ true
later_met i index place [] is within = absurd (omega (arith, within))
later_met i zero place (m ∷ ms) is within = ap (λ (b : Bool). b || is_met (renumbered (suc i) ms) place) (eq-eqb place i (omega (arith, is)))
later_met i (suc index) place (m ∷ ms) is within = ap (λ (b : Bool). nat_eq place i || b) (later_met (suc i) index place ms (omega (arith, is)) (omega (arith, within))) ∙ or-true (nat_eq place i)

not_met_yet : (i place : ℕ) (ms : List Met) → i + length ms ≤ place → is_met (renumbered i ms) place ≡ false
not_met_yet i place [] past = refl
not_met_yet i place (m ∷ ms) past =
    ap (λ (b : Bool). b || is_met (renumbered (suc i) ms) place) (ne_eqb place i (λ (e : place ≡ i). absurd (omega (arith, past, e)))) ∙ not_met_yet (suc i) place ms (omega (arith, past))

-- ---- places of numbers

record Stands (i number : ℕ) (ms more : List Met) : Type 0 where
  index : ℕ
  within : index < length ms
  there : position_from (nat_eq number) i (map met_number (ms ++ more)) ≡ Some (i + index)

stands : (i number : ℕ) (ms more : List Met) → is_met ms number ≡ true → Stands i number ms more
stands i number [] more met = absurd (true≢false (sym met))
stands i number (m ∷ ms) more met = by_test (nat_eq number m.fragment) refl (λ later. stands (i + 1) number ms more later)
  where
    here : (n : ℕ) → n ≡ n + 0
    here n = omega arith

    by_test : (b : Bool) → nat_eq number m.fragment ≡ b → (is_met ms number ≡ true → Stands (i + 1) number ms more) → Stands i number (m ∷ ms) more
    by_test true e behind = record { index = 0; within = omega arith; there = ap (λ (c : Bool). cond c (Some i) (position_from (nat_eq number) (i + 1) (map met_number (ms ++ more)))) e ∙ ap (λ (n : ℕ). Some n) (here i) }
    by_test false e behind =
        let r = behind (sym (ap (λ (c : Bool). c || is_met ms number) e) ∙ met) in
        let w = r.within in
        let n : (i + 1) + r.index ≡ i + suc r.index = omega arith in
        record { index = suc r.index; within = omega (arith, w); there = ap (λ (c : Bool). cond c (Some i) (position_from (nat_eq number) (i + 1) (map met_number (ms ++ more)))) e ∙ (r.there ∙ ap (λ (k : ℕ). Some k) n) }

stands_last : (i place number : ℕ) (within : Option ℕ) (ms more : List Met) → place ≡ i + length ms → is_met ms number ≡ false
    → position_from (nat_eq number) i (map met_number (ms ++ (met_at number within ∷ more))) ≡ Some place
stands_last i place number within [] more is new =
    let e : i ≡ place = omega (arith, is) in
    ap (λ (c : Bool). cond c (Some i) (position_from (nat_eq number) (i + 1) (map met_number more))) (eq-eqb number number refl) ∙ ap (λ (n : ℕ). Some n) e
stands_last i place number within (m ∷ ms) more is new = by_test (nat_eq number m.fragment) refl (λ later. stands_last (i + 1) place number within ms more (omega (arith, is)) later)
  where
    by_test : (b : Bool) → nat_eq number m.fragment ≡ b → (is_met ms number ≡ false → position_from (nat_eq number) (i + 1) (map met_number (ms ++ (met_at number within ∷ more))) ≡ Some place) → position_from (nat_eq number) i (map met_number ((m ∷ ms) ++ (met_at number within ∷ more))) ≡ Some place
    by_test true e behind = absurd (true≢false (sym (ap (λ (c : Bool). c || is_met ms number) e) ∙ new))
    by_test false e behind =
        ap (λ (c : Bool). cond c (Some i) (position_from (nat_eq number) (i + 1) (map met_number (ms ++ (met_at number within ∷ more))))) e
        ∙ behind (sym (ap (λ (c : Bool). c || is_met ms number) e) ∙ new)

-- ---- what is spread in a fragment

abbrev pub spread_in_data : FragmentData → List (List ℕ)
spread_in_data f = spreads_in f.below

alike_spreads : (place : ℕ) (f g : Option FragmentData) → option_map spread_in_data f ≡ option_map spread_in_data g → spreads_of_data place f ≡ spreads_of_data place g
alike_spreads place None None same = refl
alike_spreads place None (Some g) same = absurd (cc)
alike_spreads place (Some f) None same = absurd (cc)
alike_spreads place (Some f) (Some g) same = ap (map (spread_within (Some place))) (same_Some (spreads_in f.below) (spreads_in g.below) same)

count_from : (fs : List FragmentData) (place : ℕ) → length (spreads_of_data place (slice_get fs place)) + spread_count (drop (suc place) fs) ≡ spread_count (drop place fs)
count_from fs place = by_list fs place place
  where
    by_list : (fs : List FragmentData) (n at : ℕ) → length (spreads_of_data at (slice_get fs n)) + spread_count (drop (suc n) fs) ≡ spread_count (drop n fs)
    by_list [] zero at = refl
    by_list [] (suc n) at = refl
    by_list (f ∷ fs) zero at = ap (λ (k : ℕ). k + spread_count fs) (length-map (spreads_in f.below) (spread_within (Some at)))
    by_list (f ∷ fs) (suc n) at = by_list fs n at

-- ---- the two walks side by side

-- `own` are fragments, of which a walk from these selections meets `met`. `sent` are those that it meets, in this order.
module _ (own sent : List FragmentData) (met : List Met) (below : SelectionTrees) (first : AreFirst own met) (ranks : HasRanks own met below)
    (names : map fragment_name sent ≡ map fragment_name (datas_met own met)) (bodies : map spread_in_data sent ≡ map spread_in_data (datas_met own met)) where
  place_sent : (name : List ℕ) → place_of_name fragment_name sent name ≡ numbered own 0 (map met_number met) (place_of_name fragment_name own name)
  place_sent name =
      places_of_names sent 0 name ∙ (ap (position_from (λ (n : List ℕ). bytes_eq n name) 0) names ∙ (sym (places_of_names (datas_met own met) 0 name) ∙ places_met own name 0 met first))

  -- what is spread was met
  abbrev WasMet : Option ℕ → Type 0
  WasMet None = Unit {0}
  WasMet (Some number) = is_met met number ≡ true

  abbrev WereMet : List Spread → Type 0
  WereMet [] = Unit {0}
  WereMet (s ∷ others) = WasMet (place_of_name fragment_name own s.name) × WereMet others

  below_met : (r : ℕ) (names : List (List ℕ)) (within : Option ℕ) → AreBelow ranks.rank own met r names → WereMet (map (spread_within within) names)
  below_met r [] within are = tt
  below_met r (name ∷ names) within are = (one (place_of_name fragment_name own name) are.0, below_met r names within are.1)
    where
      one : (o : Option ℕ) → IsBelow ranks.rank met r o → WasMet o
      one None is = tt
      one (Some number) is = is.0

  both_met : (a b : List Spread) → WereMet a → WereMet b → WereMet (a ++ b)
  both_met [] b x y = y
  both_met (s ∷ a) b x y = (x.0, both_met a b x.1 y)

  inside_met : (place number : ℕ) (o : Option FragmentData) → slice_get own number ≡ o → is_met met number ≡ true → WereMet (spreads_of_data place o)
  inside_met place number None is there = tt
  inside_met place number (Some f) is there = below_met (ranks.rank number) (spreads_in f.below) (Some place) (ranks.inside number f there is)

  -- ---- one step

  module _ (m : ℕ) (now : List Met) (s : Spread) (others : List Spread) where
    -- the sent fragment at the place spreads what the met one does
    spread_alike : (number : ℕ) (more : List Met) → met ≡ now ++ (met_at number s.within ∷ more) → option_map spread_in_data (slice_get sent (length now)) ≡ option_map spread_in_data (slice_get own number)
    spread_alike number more grown =
        sym (slice_get-map spread_in_data sent (length now))
        ∙ (ap (λ (l : List (List (List ℕ))). slice_get l (length now)) bodies
        ∙ (slice_get-map spread_in_data (datas_met own met) (length now)
        ∙ ap (option_map spread_in_data) (ap (λ (l : List Met). slice_get (datas_met own l) (length now)) grown ∙ data_at own now (met_at number s.within) more (subst (AreFirst own) grown first))))

    -- a fragment that was met is passed over
    passed_over : (place : ℕ) → place_of_name fragment_name sent s.name ≡ Some place → is_met (renumbered 0 now) place ≡ true → walk sent (suc m) (renumbered 0 now) (s ∷ others) ≡ walk sent m (renumbered 0 now) others
    passed_over place is seen =
        walk_looks sent m (renumbered 0 now) s others
        ∙ (ap (look_at sent (walk sent m) (renumbered 0 now) s others) is
        ∙ ap (λ (b : Bool). if b then walk sent m (renumbered 0 now) others else walk sent m (renumbered 0 now ++ (met_at place s.within ∷ [])) (spreads_of_data (length (renumbered 0 now)) (slice_get sent place) ++ others)) seen)

    none_there : place_of_name fragment_name own s.name ≡ None → walk sent (suc m) (renumbered 0 now) (s ∷ others) ≡ walk sent m (renumbered 0 now) others
    none_there is =
        walk_looks sent m (renumbered 0 now) s others ∙ ap (look_at sent (walk sent m) (renumbered 0 now) s others) (place_sent s.name ∙ ap (numbered own 0 (map met_number met)) is)

    met_before : (number : ℕ) (more : List Met) → met ≡ now ++ more → place_of_name fragment_name own s.name ≡ Some number → is_met now number ≡ true
        → walk sent (suc m) (renumbered 0 now) (s ∷ others) ≡ walk sent m (renumbered 0 now) others
    met_before number more grown is seen =
        let r = stands 0 number now more seen in
        passed_over (0 + r.index)
        (place_sent s.name ∙ (ap (numbered own 0 (map met_number met)) is ∙ (ap (λ (l : List Met). position_from (nat_eq number) 0 (map met_number l)) grown ∙ r.there)))
        (later_met 0 r.index (0 + r.index) now refl r.within)

    entered : (number : ℕ) (more : List Met) → met ≡ now ++ (met_at number s.within ∷ more) → place_of_name fragment_name own s.name ≡ Some number → is_met now number ≡ false
        → walk sent (suc m) (renumbered 0 now) (s ∷ others) ≡ walk sent m (renumbered 0 (now ++ (met_at number s.within ∷ []))) (spreads_of_data (length now) (slice_get own number) ++ others)
    entered number more grown is new =
        let place : ℕ = length now in
        let e : place ≡ 0 + length now = omega arith in
        let found : place_of_name fragment_name sent s.name ≡ Some place =
        place_sent s.name ∙ (ap (numbered own 0 (map met_number met)) is ∙ (ap (λ (l : List Met). position_from (nat_eq number) 0 (map met_number l)) grown ∙ stands_last 0 place number s.within now more e new)) in
        let unseen : is_met (renumbered 0 now) place ≡ false = not_met_yet 0 place now (omega arith) in
        walk_looks sent m (renumbered 0 now) s others
        ∙ (ap (look_at sent (walk sent m) (renumbered 0 now) s others) found
        ∙ (ap (λ (b : Bool). if b then walk sent m (renumbered 0 now) others else walk sent m (renumbered 0 now ++ (met_at place s.within ∷ [])) (spreads_of_data (length (renumbered 0 now)) (slice_get sent place) ++ others)) unseen
        ∙ ap₂ (λ (l : List Met) (ss : List Spread). walk sent m l (ss ++ others)) (sym (renumbered_more 0 place now number s.within e))
        (ap (λ (k : ℕ). spreads_of_data k (slice_get sent place)) (renumbered_length 0 now) ∙ alike_spreads place (slice_get sent place) (slice_get own number) (spread_alike number more grown))))

  -- ---- all steps

  -- where all was met
  all_passed : (m : ℕ) (spreads : List Spread) → WereMet spreads → walk sent m (renumbered 0 met) spreads ≡ renumbered 0 met
  unfolding walk
  all_passed zero spreads were = refl
  all_passed (suc m) [] were = refl
  all_passed (suc m) (s ∷ others) were = by_place (place_of_name fragment_name own s.name) refl were.0 (all_passed m others were.1)
    where
      by_place : (o : Option ℕ) → place_of_name fragment_name own s.name ≡ o → WasMet o → walk sent m (renumbered 0 met) others ≡ renumbered 0 met → walk sent (suc m) (renumbered 0 met) (s ∷ others) ≡ renumbered 0 met
      by_place None is was rest = none_there m met s others is ∙ rest
      by_place (Some number) is was rest = met_before m met s others number [] (sym (append-nil met)) is was ∙ rest

  abbrev Claim : ℕ → Type 0
  Claim n = (m : ℕ) (now : List Met) (spreads : List Spread) → walk own n now spreads ≡ met → m ≡ length spreads + spread_count (drop (length now) sent) → WereMet spreads → walk sent m (renumbered 0 now) spreads ≡ renumbered 0 met

  module _ (n : ℕ) (before : Claim n) (m : ℕ) (now : List Met) (s : Spread) (others : List Spread) (enough : suc m ≡ suc (length others) + spread_count (drop (length now) sent)) (were : WereMet (s ∷ others)) where
    by_met : (number : ℕ) (b : Bool) → place_of_name fragment_name own s.name ≡ Some number → is_met met number ≡ true → is_met now number ≡ b
        → (if b then walk own n now others else walk own n (now ++ (met_at number s.within ∷ [])) (spreads_of_data (length now) (slice_get own number) ++ others)) ≡ met
        → walk sent (suc m) (renumbered 0 now) (s ∷ others) ≡ renumbered 0 met
    by_met number true is there seen goes =
        let longer = walk_longer own n now others in
        met_before m now s others number longer.0 (sym goes ∙ longer.1) is seen ∙ before m now others goes (omega (arith, enough)) were.1
    by_met number false is there new goes =
        let x : Met = met_at number s.within in
        let inner : List Spread = spreads_of_data (length now) (slice_get own number) in
        let longer = walk_longer own n (now ++ (x ∷ [])) (inner ++ others) in
        let grown : met ≡ now ++ (x ∷ longer.0) = sym goes ∙ (longer.1 ∙ append_assoc now (x ∷ []) longer.0) in
        entered m now s others number longer.0 grown is new
        ∙ before m (now ++ (x ∷ [])) (inner ++ others) goes (fewer number longer.0 grown) (both_met inner others (inside_met (length now) number (slice_get own number) refl there) were.1)
      where
        fewer : (number : ℕ) (more : List Met) → met ≡ now ++ (met_at number s.within ∷ more)
            → m ≡ length (spreads_of_data (length now) (slice_get own number) ++ others) + spread_count (drop (length (now ++ (met_at number s.within ∷ []))) sent)
        fewer number more grown =
            let inner : List Spread = spreads_of_data (length now) (slice_get own number) in
            let same : spreads_of_data (length now) (slice_get sent (length now)) ≡ inner = alike_spreads (length now) (slice_get sent (length now)) (slice_get own number) (spread_alike m now s others number more grown) in
            let counted = count_from sent (length now) in
            let here = ap length same in
            let long = length-append inner others in
            let e : suc (length now) ≡ length (now ++ (met_at number s.within ∷ [])) = (let l = length-append now (met_at number s.within ∷ []) in omega (arith, l)) in
            let rest = ap (λ (k : ℕ). spread_count (drop k sent)) e in
            omega (arith, enough, counted, here, long, rest)

    by_place : (o : Option ℕ) → place_of_name fragment_name own s.name ≡ o → WasMet o → look_at own (walk own n) now s others o ≡ met → walk sent (suc m) (renumbered 0 now) (s ∷ others) ≡ renumbered 0 met
    by_place None is was goes = none_there m now s others is ∙ before m now others goes (omega (arith, enough)) were.1
    by_place (Some number) is was goes = by_met number (is_met now number) is was refl goes

  side_by_side : (n : ℕ) → Claim n
  unfolding walk
  side_by_side zero m now spreads goes enough were = ap (λ (l : List Met). walk sent m (renumbered 0 l) spreads) goes ∙ all_passed m spreads were
  side_by_side (suc n) m now [] goes enough were = walk_ends sent m (renumbered 0 now) ∙ ap (renumbered 0) goes
  side_by_side (suc n) zero now (s ∷ others) goes enough were = absurd (omega (arith, enough))
  side_by_side (suc n) (suc m) now (s ∷ others) goes enough were = by_place n (side_by_side n) m now s others enough were (place_of_name fragment_name own s.name) refl were.0 goes

  -- what the selections of the sent operation reach
  pub reached_in_order : (sent_below : SelectionTrees) → spreads_in sent_below ≡ spreads_in below → reached own below ≡ met → reached sent sent_below ≡ renumbered 0 met
  reached_in_order sent_below same goes =
      let m : ℕ = length (spreads_in below) + spread_count sent in
      let long = length-map (spreads_in below) (spread_within None) in
      ap (λ (l : List (List ℕ)). walk sent (length l + spread_count sent) [] (map (spread_within None) l)) same
      ∙ side_by_side (length (spreads_in below) + spread_count own) m [] (spreads_within None below) goes (omega (arith, long)) (below_met (suc (length met)) (spreads_in below) None ranks.selections)

-- Where no spread names a fragment that the walk is inside of, fragments have ranks: the order in which the walk leaves them.
use Rattle.std.proofs.Common.{◌≡◌, ◌⊎◌, inl, inr, ⊎_elim, ℕ, zero, suc, ◌+◌, ◌<◌, ◌≤◌, ◌||◌, nat_eq, Bool, true, false, true≢false, if◌then◌else◌, List, [], ◌∷◌, ◌++◌, map, length, Option, Some, None, refl, sym, ap, ◌∙◌, subst, arith, append_assoc, append-nil, length-append}
use Rattle.std.specs.Prelude.{slice_get}
use Rattle.std.specs.List.{list_any}
use Rattle.std.proofs.Math.Bool.{or-true, or-false}
use Rattle.std.proofs.lemmas.Bool.{cases_Bool, eq-eqb, eqb-true, eqb-false, ne_eqb}
use Rattle.std.proofs.lemmas.List.{length-map}
use Rattle.gql_base.specs.names.Names.{place_of_name}
use Rattle.document_reader.specs.Documents.{SelectionTrees}
use Rattle.document_rules.specs.Parts.{FragmentData, fragment_name}
use Rattle.document_rules.specs.Met.{Met, Spread, spreads_in, spread_within, spreads_within, spreads_of_data, is_met, met_at, met_there, look_at, walk, reached, spread_count, outward, outward_from, inside_at}
use Rattle.document_rules.specs.Rules.{is_inside}
use Rattle.document_rules.specs.Ranks.{IsBelow, AreBelow, HasRanks}
use Rattle.document_rules.proofs.SpreadSteps.{met_more, spreads_at, walk_ends, walk_looks}

abbrev pub among : List ℕ → ℕ → Bool
among xs k = list_any (nat_eq k) xs

abbrev In : List ℕ → List ℕ → Type 0
In xs ys = (k : ℕ) → among xs k ≡ true → among ys k ≡ true

clash : {X : Type 0} (b : Bool) → b ≡ true → b ≡ false → X
clash b e f = absurd (true≢false (sym e ∙ f))

at_first : (k : ℕ) (xs : List ℕ) → among (k ∷ xs) k ≡ true
at_first k xs = ap (λ b. b || among xs k) (eq-eqb k k refl)

behind : (k m : ℕ) (xs : List ℕ) → among xs k ≡ true → among (m ∷ xs) k ≡ true
behind k m xs h = ap (λ b. nat_eq k m || b) h ∙ or-true (nat_eq k m)

pub which : (k m : ℕ) (xs : List ℕ) → among (m ∷ xs) k ≡ true → (k ≡ m) ⊎ (among xs k ≡ true)
which k m xs h = ⊎_elim
    (λ (e : nat_eq k m ≡ true). inl (eqb-true k m e))
    (λ (e : nat_eq k m ≡ false). inr (sym (ap (λ b. b || among xs k) e) ∙ h))
    (cases_Bool (nat_eq k m))

-- ---- the chain of fragments outward

pub slice_more : {X : Type 0} (xs ys : List X) (n : ℕ) (x : X) → slice_get xs n ≡ Some x → slice_get (xs ++ ys) n ≡ Some x
slice_more [] ys n x is = absurd (cc)
slice_more (y ∷ xs) ys zero x is = is
slice_more (y ∷ xs) ys (suc n) x is = slice_more xs ys n x is

pub slice_last : {X : Type 0} (xs : List X) (x : X) → slice_get (xs ++ (x ∷ [])) (length xs) ≡ Some x
slice_last [] x = refl
slice_last (y ∷ xs) x = slice_last xs x

there_more : (met more : List Met) (w : Option ℕ) (m : Met) → met_there met w ≡ Some m → met_there (met ++ more) w ≡ Some m
there_more met more None m is = absurd (cc)
there_more met more (Some n) m is = slice_more met more n m is

record Link (met : List Met) (w : Option ℕ) (k : ℕ) (rest : Option ℕ → Type 0) : Type 0 where
  here : Met
  there : met_there met w ≡ Some here
  number : here.fragment ≡ k
  others : rest here.within

abbrev Chain : List Met → Option ℕ → List ℕ → Type 0
Chain met w [] = w ≡ None
Chain met w (k ∷ inside) = Link met w k (λ v. Chain met v inside)

chain_more : (met more : List Met) (w : Option ℕ) (inside : List ℕ) → Chain met w inside → Chain (met ++ more) w inside
chain_more met more w [] c = c
chain_more met more w (k ∷ inside) c = record { here = c.here; there = there_more met more w c.here c.there; number = c.number; others = chain_more met more c.here.within inside c.others }

chain_outward : (met : List Met) (n : ℕ) (w : Option ℕ) (inside : List ℕ) → length inside ≤ n → Chain met w inside → outward n met w ≡ inside
unfolding outward
chain_outward met zero w [] short c = refl
chain_outward met (suc n) w [] short c = ap (λ v. outward_from (outward n met) (met_there met v)) c
chain_outward met zero w (k ∷ inside) short c = absurd (omega (arith, short))
chain_outward met (suc n) w (k ∷ inside) short c =
    ap (outward_from (outward n met)) c.there ∙ (ap (λ m. m ∷ outward n met c.here.within) c.number ∙ ap (λ l. k ∷ l) (chain_outward met n c.here.within inside (omega arith) c.others))

-- ---- how many spreads the fragments hold that weren't met

abbrev pub unmet : (ℕ → Bool) → List FragmentData → ℕ
unmet seen [] = 0
unmet seen (f ∷ fs) = (if seen 0 then 0 else length (spreads_in f.below)) + unmet (λ n. seen (suc n)) fs

unmet_same : (a b : ℕ → Bool) → ((n : ℕ) → a n ≡ b n) → (fs : List FragmentData) → unmet a fs ≡ unmet b fs
unmet_same a b same [] = refl
unmet_same a b same (f ∷ fs) =
    ap (λ c. (if c then 0 else length (spreads_in f.below)) + unmet (λ n. a (suc n)) fs) (same 0)
    ∙ ap (λ r. (if b 0 then 0 else length (spreads_in f.below)) + r) (unmet_same (λ n. a (suc n)) (λ n. b (suc n)) (λ n. same (suc n)) fs)

next_eq : (n k : ℕ) → nat_eq (suc n) (suc k) ≡ nat_eq n k
next_eq n k = ⊎_elim
    (λ (e : nat_eq n k ≡ true). eq-eqb (suc n) (suc k) (ap suc (eqb-true n k e)) ∙ sym e)
    (λ (e : nat_eq n k ≡ false). ne_eqb (suc n) (suc k) (λ same. eqb-false n k e (omega (arith, same))) ∙ sym e)
    (cases_Bool (nat_eq n k))

pub unmet_once : (seen later : ℕ → Bool) (fs : List FragmentData) (k : ℕ) → ((n : ℕ) → later n ≡ (seen n || nat_eq n k)) → seen k ≡ false → unmet later fs + spreads_at (slice_get fs k) ≡ unmet seen fs
unmet_once seen later [] k same new = omega arith
unmet_once seen later (f ∷ fs) zero same new =
    let here : later 0 ≡ true = same 0 ∙ (ap (λ b. b || nat_eq 0 0) new ∙ eq-eqb 0 0 refl) in
    let rest : unmet (λ n. later (suc n)) fs ≡ unmet (λ n. seen (suc n)) fs =
    unmet_same (λ n. later (suc n)) (λ n. seen (suc n)) (λ n. same (suc n) ∙ (ap (λ b. seen (suc n) || b) (ne_eqb (suc n) 0 (λ e. absurd (omega (arith, e)))) ∙ or-false (seen (suc n)))) fs in
    let a : unmet later (f ∷ fs) ≡ 0 + unmet (λ n. later (suc n)) fs = ap (λ b. (if b then 0 else length (spreads_in f.below)) + unmet (λ n. later (suc n)) fs) here in
    let c : unmet seen (f ∷ fs) ≡ length (spreads_in f.below) + unmet (λ n. seen (suc n)) fs = ap (λ b. (if b then 0 else length (spreads_in f.below)) + unmet (λ n. seen (suc n)) fs) new in
    omega (arith, a, c, rest)
unmet_once seen later (f ∷ fs) (suc k) same new =
    let here : later 0 ≡ seen 0 = same 0 ∙ (ap (λ b. seen 0 || b) (ne_eqb 0 (suc k) (λ e. absurd (omega (arith, e)))) ∙ or-false (seen 0)) in
    let a : unmet later (f ∷ fs) ≡ (if seen 0 then 0 else length (spreads_in f.below)) + unmet (λ n. later (suc n)) fs = ap (λ b. (if b then 0 else length (spreads_in f.below)) + unmet (λ n. later (suc n)) fs) here in
    let rest : unmet (λ n. later (suc n)) fs + spreads_at (slice_get fs k) ≡ unmet (λ n. seen (suc n)) fs =
    unmet_once (λ n. seen (suc n)) (λ n. later (suc n)) fs k (λ n. same (suc n) ∙ ap (λ b. seen (suc n) || b) (next_eq n k)) new in
    omega (arith, a, rest)

pub none_met : (fs : List FragmentData) → unmet (is_met []) fs ≡ spread_count fs
none_met fs = all_of fs
  where
    all_of : (gs : List FragmentData) → unmet (λ n. false) gs ≡ spread_count gs
    all_of [] = refl
    all_of (g ∷ gs) = ap (λ n. length (spreads_in g.below) + n) (all_of gs)

-- ---- fragments that were left, the last first

module _ (fs : List FragmentData) where
  abbrev InLeft : List ℕ → Option ℕ → Type 0
  InLeft left None = Unit {0}
  InLeft left (Some k) = among left k ≡ true

  abbrev NamesIn : List ℕ → List (List ℕ) → Type 0
  NamesIn left [] = Unit {0}
  NamesIn left (name ∷ names) = InLeft left (place_of_name fragment_name fs name) × NamesIn left names

  abbrev pub NoneInside : List ℕ → List (List ℕ) → Type 0
  NoneInside inside [] = Unit {0}
  NoneInside inside (name ∷ names) = (is_inside inside (place_of_name fragment_name fs name) ≡ false) × NoneInside inside names

  record Leaves (left : List ℕ) (k : ℕ) (rest : Type 0) : Type 0 where
    new : among left k ≡ false
    spread : (f : FragmentData) → slice_get fs k ≡ Some f → NamesIn left (spreads_in f.below)
    others : rest

  abbrev Ordered : List ℕ → Type 0
  Ordered [] = Unit {0}
  Ordered (k ∷ left) = Leaves left k (Ordered left)

  in_left_more : (xs ys : List ℕ) → In xs ys → (o : Option ℕ) → InLeft xs o → InLeft ys o
  in_left_more xs ys more None h = tt
  in_left_more xs ys more (Some k) h = more k h

  names_more : (xs ys : List ℕ) → In xs ys → (names : List (List ℕ)) → NamesIn xs names → NamesIn ys names
  names_more xs ys more [] h = tt
  names_more xs ys more (name ∷ names) h = (in_left_more xs ys more (place_of_name fragment_name fs name) h.0, names_more xs ys more names h.1)

  -- ---- ranks

  abbrev rank_in : List ℕ → ℕ → ℕ
  rank_in [] k = 0
  rank_in (m ∷ left) k = if nat_eq k m then suc (length left) else rank_in left k

  rank_small : (left : List ℕ) (k : ℕ) → rank_in left k ≤ length left
  rank_small [] k = omega arith
  rank_small (m ∷ left) k = ⊎_elim
      (λ (e : nat_eq k m ≡ true). let r : rank_in (m ∷ left) k ≡ suc (length left) = ap (λ b. if b then suc (length left) else rank_in left k) e in omega (arith, r))
      (λ (e : nat_eq k m ≡ false). let r : rank_in (m ∷ left) k ≡ rank_in left k = ap (λ b. if b then suc (length left) else rank_in left k) e in omega (arith, r, rank_small left k))
      (cases_Bool (nat_eq k m))

  rank_later : (m k : ℕ) (left : List ℕ) → among left m ≡ false → among left k ≡ true → rank_in (m ∷ left) k ≡ rank_in left k
  rank_later m k left new there = ap (λ b. if b then suc (length left) else rank_in left k) (ne_eqb k m (λ same. clash (among left m) (subst (λ x. among left x ≡ true) same there) new))

  abbrev Lower : List ℕ → ℕ → Option ℕ → Type 0
  Lower left r None = Unit {0}
  Lower left r (Some k) = (among left k ≡ true) × (rank_in left k < r)

  abbrev AreLower : List ℕ → ℕ → List (List ℕ) → Type 0
  AreLower left r [] = Unit {0}
  AreLower left r (name ∷ names) = Lower left r (place_of_name fragment_name fs name) × AreLower left r names

  first_lower : (m : ℕ) (left : List ℕ) → among left m ≡ false → (o : Option ℕ) → InLeft left o → Lower (m ∷ left) (suc (length left)) o
  first_lower m left new None h = tt
  first_lower m left new (Some k) h = (behind k m left h, (let e = rank_later m k left new h in omega (arith, e, rank_small left k)))

  firsts_lower : (m : ℕ) (left : List ℕ) → among left m ≡ false → (names : List (List ℕ)) → NamesIn left names → AreLower (m ∷ left) (suc (length left)) names
  firsts_lower m left new [] h = tt
  firsts_lower m left new (name ∷ names) h = (first_lower m left new (place_of_name fragment_name fs name) h.0, firsts_lower m left new names h.1)

  still_lower : (m r : ℕ) (left : List ℕ) → among left m ≡ false → (o : Option ℕ) → Lower left r o → Lower (m ∷ left) r o
  still_lower m r left new None h = tt
  still_lower m r left new (Some k) h = (behind k m left h.0, (let e = rank_later m k left new h.0 in omega (arith, e, h.1)))

  stay_lower : (m r : ℕ) (left : List ℕ) → among left m ≡ false → (names : List (List ℕ)) → AreLower left r names → AreLower (m ∷ left) r names
  stay_lower m r left new [] h = tt
  stay_lower m r left new (name ∷ names) h = (still_lower m r left new (place_of_name fragment_name fs name) h.0, stay_lower m r left new names h.1)

  ordered_lower : (left : List ℕ) → Ordered left → (n : ℕ) (f : FragmentData) → among left n ≡ true → slice_get fs n ≡ Some f → AreLower left (rank_in left n) (spreads_in f.below)
  ordered_lower [] o n f there is = absurd (true≢false (sym there))
  ordered_lower (m ∷ left) o n f there is = ⊎_elim
      (λ (e : n ≡ m).
      let r : rank_in (m ∷ left) n ≡ suc (length left) = ap (λ b. if b then suc (length left) else rank_in left n) (eq-eqb n m e) in
      subst (λ x. AreLower (m ∷ left) x (spreads_in f.below)) (sym r) (firsts_lower m left o.new (spreads_in f.below) (o.spread f (subst (λ x. slice_get fs x ≡ Some f) e is))))
      (λ (h : among left n ≡ true).
      subst (λ x. AreLower (m ∷ left) x (spreads_in f.below)) (sym (rank_later m n left o.new h)) (stay_lower m (rank_in left n) left o.new (spreads_in f.below) (ordered_lower left o.others n f h is)))
      (which n m left there)

  all_lower : (left : List ℕ) (names : List (List ℕ)) → NamesIn left names → AreLower left (suc (length left)) names
  all_lower left [] h = tt
  all_lower left (name ∷ names) h = (one_lower (place_of_name fragment_name fs name) h.0, all_lower left names h.1)
    where
      one_lower : (o : Option ℕ) → InLeft left o → Lower left (suc (length left)) o
      one_lower None g = tt
      one_lower (Some k) g = (g, omega (arith, rank_small left k))

  module _ (met : List Met) (left : List ℕ) (within : (k : ℕ) → among left k ≡ true → is_met met k ≡ true) where
    told_below : (r : ℕ) (o : Option ℕ) → Lower left r o → IsBelow (rank_in left) met r o
    told_below r None h = tt
    told_below r (Some k) h = (within k h.0, h.1)

    are_below : (r : ℕ) (names : List (List ℕ)) → AreLower left r names → AreBelow (rank_in left) fs met r names
    are_below r [] h = tt
    are_below r (name ∷ names) h = (told_below r (place_of_name fragment_name fs name) h.0, are_below r names h.1)

  -- ---- the walk

  abbrev Split : List Met → List ℕ → List ℕ → Type 0
  Split met left inside = (k : ℕ) → is_met met k ≡ true → (among left k ≡ true) ⊎ (among inside k ≡ true)

  -- what was met is left, or the walk is inside of it
  record State (met : List Met) (left inside : List ℕ) (w : Option ℕ) : Type 0 where
    chain : Chain met w inside
    short : length inside ≤ length met
    split : Split met left inside
    within : (k : ℕ) → among left k ≡ true → is_met met k ≡ true
    entered : (k : ℕ) → among inside k ≡ true → is_met met k ≡ true
    apart : (k : ℕ) → among inside k ≡ true → among left k ≡ false
    ordered : Ordered left

  module _ (final : List Met) where
    -- where the walk has come to the others
    record Walked (n : ℕ) (met : List Met) (left inside : List ℕ) (names : List (List ℕ)) (others : List Spread) : Type 0 where
      steps : ℕ
      less : steps ≤ n
      later_met : List Met
      later : List ℕ
      goes : walk fs steps later_met others ≡ final
      fuel : steps ≡ length others + unmet (is_met later_met) fs
      more : List Met
      grown : later_met ≡ met ++ more
      kept : In left later
      split : Split later_met later inside
      within : (k : ℕ) → among later k ≡ true → is_met later_met k ≡ true
      apart : (k : ℕ) → among inside k ≡ true → among later k ≡ false
      ordered : Ordered later
      count : length later + length met ≡ length left + length later_met
      spread : NamesIn later names

    abbrev Claim : ℕ → List (List ℕ) → Type 0
    Claim b names = (n : ℕ) (met : List Met) (left inside : List ℕ) (w : Option ℕ) (others : List Spread) → n ≤ b → n ≡ length names + (length others + unmet (is_met met) fs)
        → State met left inside w → NoneInside inside names → walk fs n met (map (spread_within w) names ++ others) ≡ final → Walked n met left inside names others

    done : (n : ℕ) (met : List Met) (left inside : List ℕ) (w : Option ℕ) (others : List Spread) → n ≡ length others + unmet (is_met met) fs → State met left inside w → walk fs n met others ≡ final → Walked n met left inside [] others
    done n met left inside w others fuel s goes = record {
      steps = n;
      less = omega arith;
      later_met = met;
      later = left;
      goes = goes;
      fuel = fuel;
      more = [];
      grown = sym (append-nil met);
      kept = λ k h. h;
      split = s.split;
      within = s.within;
      apart = s.apart;
      ordered = s.ordered;
      count = refl;
      spread = tt;
    }

    -- the same, with a name whose fragment was left
    with_name : (n m : ℕ) (met : List Met) (left inside : List ℕ) (name : List ℕ) (names : List (List ℕ)) (others : List Spread) → m ≤ n
        → (a : Walked m met left inside names others) → InLeft a.later (place_of_name fragment_name fs name) → Walked n met left inside (name ∷ names) others
    with_name n m met left inside name names others h a here = record {
      steps = a.steps;
      less = omega (arith, a.less);
      later_met = a.later_met;
      later = a.later;
      goes = a.goes;
      fuel = a.fuel;
      more = a.more;
      grown = a.grown;
      kept = a.kept;
      split = a.split;
      within = a.within;
      apart = a.apart;
      ordered = a.ordered;
      count = a.count;
      spread = (here, a.spread);
    }

    abbrev body_names : Option FragmentData → List (List ℕ)
    body_names None = []
    body_names (Some f) = spreads_in f.below

    body_spreads : (p : ℕ) (o : Option FragmentData) → spreads_of_data p o ≡ map (spread_within (Some p)) (body_names o)
    body_spreads p None = refl
    body_spreads p (Some f) = refl

    body_count : (o : Option FragmentData) → length (body_names o) ≡ spreads_at o
    body_count None = refl
    body_count (Some f) = refl

    module _ (n : ℕ) (before : (met : List Met) (spreads : List Spread) → (more : List Met) × (walk fs n met spreads ≡ met ++ more)) where
      extends_met : (met : List Met) (s : Spread) (others : List Spread) (k : ℕ) (b : Bool)
          → (more : List Met) × ((if b then walk fs n met others else walk fs n (met ++ (met_at k s.within ∷ [])) (spreads_of_data (length met) (slice_get fs k) ++ others)) ≡ met ++ more)
      extends_met met s others k true = before met others
      extends_met met s others k false =
          let e = before (met ++ (met_at k s.within ∷ [])) (spreads_of_data (length met) (slice_get fs k) ++ others) in
          (met_at k s.within ∷ e.0, e.1 ∙ append_assoc met (met_at k s.within ∷ []) e.0)

      extends_look : (met : List Met) (s : Spread) (others : List Spread) (o : Option ℕ) → (more : List Met) × (look_at fs (walk fs n) met s others o ≡ met ++ more)
      extends_look met s others None = before met others
      extends_look met s others (Some k) = extends_met met s others k (is_met met k)

    extends : (n : ℕ) (met : List Met) (spreads : List Spread) → (more : List Met) × (walk fs n met spreads ≡ met ++ more)
    unfolding walk
    extends zero met spreads = ([], sym (append-nil met))
    extends (suc n) met [] = ([], sym (append-nil met))
    extends (suc n) met (s ∷ others) = extends_look n (extends n) met s others (place_of_name fragment_name fs s.name)

    module _ (acyclic : (place : ℕ) (m : Met) (f : FragmentData) → slice_get final place ≡ Some m → slice_get fs m.fragment ≡ Some f → NoneInside (inside_at final (Some place)) (spreads_in f.below)) where
      -- the walk enters a fragment
      inside_state : (met : List Met) (left inside : List ℕ) (w : Option ℕ) (k : ℕ) → is_met met k ≡ false → State met left inside w → State (met ++ (met_at k w ∷ [])) left (k ∷ inside) (Some (length met))
      inside_state met left inside w k new s = record {
        chain = record { here = met_at k w; there = slice_last met (met_at k w); number = refl; others = chain_more met (met_at k w ∷ []) w inside s.chain };
        short = (let l = length-append met (met_at k w ∷ []) in omega (arith, s.short, l));
        split = λ y h. split_of y (cases_Bool (is_met met y)) h;
        within = λ y h. grown_met y (s.within y h);
        entered = λ y h. ⊎_elim (λ (e : y ≡ k). met_more met (met_at k w) y ∙ (ap (λ b. is_met met y || b) (eq-eqb y k e) ∙ or-true (is_met met y))) (λ (g : among inside y ≡ true). grown_met y (s.entered y g)) (which y k inside h);
        apart = λ y h. ⊎_elim (λ (e : y ≡ k). not_left y e) (λ (g : among inside y ≡ true). s.apart y g) (which y k inside h);
        ordered = s.ordered;
      }
        where
          grown_met : (y : ℕ) → is_met met y ≡ true → is_met (met ++ (met_at k w ∷ [])) y ≡ true
          grown_met y h = met_more met (met_at k w) y ∙ ap (λ b. b || nat_eq y k) h

          split_of : (y : ℕ) → (is_met met y ≡ true) ⊎ (is_met met y ≡ false) → is_met (met ++ (met_at k w ∷ [])) y ≡ true → (among left y ≡ true) ⊎ (among (k ∷ inside) y ≡ true)
          split_of y (inl e) h = ⊎_elim (λ (g : among left y ≡ true). inl g) (λ (g : among inside y ≡ true). inr (behind y k inside g)) (s.split y e)
          split_of y (inr e) h = inr (ap (λ b. b || among inside y) (sym (ap (λ b. b || nat_eq y k) e) ∙ (sym (met_more met (met_at k w) y) ∙ h)))

          not_left : (y : ℕ) → y ≡ k → among left y ≡ false
          not_left y e = ⊎_elim (λ (g : among left y ≡ true). clash (is_met met k) (subst (λ x. is_met met x ≡ true) e (s.within y g)) new) (λ (g : among left y ≡ false). g) (cases_Bool (among left y))

      -- the spreads of the fragment that is entered name none that the walk is inside of
      body_apart : (n : ℕ) (met : List Met) (inside : List ℕ) (w : Option ℕ) (k : ℕ) (spreads : List Spread) (o : Option FragmentData) → slice_get fs k ≡ o → Chain (met ++ (met_at k w ∷ [])) (Some (length met)) (k ∷ inside)
          → length inside ≤ length met → walk fs n (met ++ (met_at k w ∷ [])) spreads ≡ final → NoneInside (k ∷ inside) (body_names o)
      body_apart n met inside w k spreads None is c short goes = tt
      body_apart n met inside w k spreads (Some f) is c short goes =
          let x : Met = met_at k w in
          let e = extends n (met ++ (x ∷ [])) spreads in
          let whole : final ≡ (met ++ (x ∷ [])) ++ e.0 = sym goes ∙ e.1 in
          let l = length-append met (x ∷ []) in
          let l2 = length-append (met ++ (x ∷ [])) e.0 in
          let long : length (k ∷ inside) ≤ length ((met ++ (x ∷ [])) ++ e.0) = omega (arith, short, l, l2) in
          let here : slice_get final (length met) ≡ Some x = subst (λ z. slice_get z (length met) ≡ Some x) (sym whole) (slice_more (met ++ (x ∷ [])) e.0 (length met) x (slice_last met x)) in
          let outside : inside_at final (Some (length met)) ≡ k ∷ inside = subst (λ z. inside_at z (Some (length met)) ≡ k ∷ inside) (sym whole)
          (chain_outward ((met ++ (x ∷ [])) ++ e.0) (length ((met ++ (x ∷ [])) ++ e.0)) (Some (length met)) (k ∷ inside) long (chain_more (met ++ (x ∷ [])) e.0 (Some (length met)) (k ∷ inside) c)) in
          subst (λ i. NoneInside i (spreads_in f.below)) outside (acyclic (length met) x f here is)

      -- a fragment that was entered is left
      left_state : (n : ℕ) (met : List Met) (left inside : List ℕ) (w : Option ℕ) (k : ℕ) (o : Option FragmentData) (others : List Spread) → is_met met k ≡ false → State met left inside w → slice_get fs k ≡ o
          → (a : Walked n (met ++ (met_at k w ∷ [])) left (k ∷ inside) (body_names o) others) → State a.later_met (k ∷ a.later) inside w
      left_state n met left inside w k o others new s is a = record {
        chain = subst (λ z. Chain z w inside) (sym all) (chain_more met ((met_at k w ∷ []) ++ a.more) w inside s.chain);
        short = (let l = ap length all in let l2 = length-append met ((met_at k w ∷ []) ++ a.more) in omega (arith, s.short, l, l2));
        split = λ y h. ⊎_elim (λ (g : among a.later y ≡ true). inl (behind y k a.later g))
            (λ (g : among (k ∷ inside) y ≡ true). ⊎_elim (λ (e : y ≡ k). inl (subst (λ x. among (k ∷ a.later) x ≡ true) (sym e) (at_first k a.later))) (λ (i : among inside y ≡ true). inr i) (which y k inside g)) (a.split y h);
        within = λ y h. ⊎_elim (λ (e : y ≡ k). subst (λ x. is_met a.later_met x ≡ true) (sym e) met_k) (λ (g : among a.later y ≡ true). a.within y g) (which y k a.later h);
        entered = λ y h. still_met y (s.entered y h);
        apart = λ y h. ap (λ b. b || among a.later y) (ne_eqb y k (λ e. clash (is_met met k) (subst (λ x. is_met met x ≡ true) e (s.entered y h)) new)) ∙ a.apart y (behind y k inside h);
        ordered = record { new = a.apart k (at_first k inside); spread = λ f e. subst (λ p. NamesIn a.later (body_names p)) (sym is ∙ e) a.spread; others = a.ordered };
      }
        where
          all : a.later_met ≡ met ++ ((met_at k w ∷ []) ++ a.more)
          all = a.grown ∙ append_assoc met (met_at k w ∷ []) a.more

          kept_met : (xs ys : List Met) (y : ℕ) → is_met xs y ≡ true → is_met (xs ++ ys) y ≡ true
          kept_met (x ∷ xs) ys y h = ⊎_elim
              (λ (e : nat_eq y x.fragment ≡ true). ap (λ b. b || is_met (xs ++ ys) y) e)
              (λ (e : nat_eq y x.fragment ≡ false). ap (λ b. b || is_met (xs ++ ys) y) e ∙ kept_met xs ys y (sym (ap (λ b. b || is_met xs y) e) ∙ h))
              (cases_Bool (nat_eq y x.fragment))
          kept_met [] ys y h = absurd (true≢false (sym h))

          still_met : (y : ℕ) → is_met met y ≡ true → is_met a.later_met y ≡ true
          still_met y h = subst (λ z. is_met z y ≡ true) (sym all) (kept_met met ((met_at k w ∷ []) ++ a.more) y h)

          met_k : is_met a.later_met k ≡ true
          met_k = subst (λ z. is_met z k ≡ true) (sym a.grown) (kept_met (met ++ (met_at k w ∷ [])) a.more k
              (met_more met (met_at k w) k ∙ (ap (λ b. is_met met k || b) (eq-eqb k k refl) ∙ or-true (is_met met k))))

      module _ (b : ℕ) (inner : (names : List (List ℕ)) → Claim b names) where
        entered_walk : (m : ℕ) (met : List Met) (left inside : List ℕ) (w : Option ℕ) (k : ℕ) (o : Option FragmentData) (names : List (List ℕ)) (others : List Spread) → m ≤ b
            → suc m ≡ suc (length names) + (length others + unmet (is_met met) fs) → is_met met k ≡ false → slice_get fs k ≡ o → State met left inside w
            → walk fs m (met ++ (met_at k w ∷ [])) (spreads_of_data (length met) o ++ (map (spread_within w) names ++ others)) ≡ final
            → Walked m (met ++ (met_at k w ∷ [])) left (k ∷ inside) (body_names o) (map (spread_within w) names ++ others)
        entered_walk m met left inside w k o names others h fuel new is s goes =
            let x : Met = met_at k w in
            let rest : List Spread = map (spread_within w) names ++ others in
            let t = inside_state met left inside w k new s in
            let once : unmet (is_met (met ++ (x ∷ []))) fs + spreads_at o ≡ unmet (is_met met) fs =
            ap (λ p. unmet (is_met (met ++ (x ∷ []))) fs + spreads_at p) (sym is) ∙ unmet_once (is_met met) (is_met (met ++ (x ∷ []))) fs k (λ y. met_more met x y) new in
            let long : length rest ≡ length names + length others = length-append (map (spread_within w) names) others ∙ ap (λ l. l + length others) (length-map names (spread_within w)) in
            inner (body_names o) m (met ++ (x ∷ [])) left (k ∷ inside) (Some (length met)) rest h (let c = body_count o in omega (arith, fuel, once, long, c)) t
            (body_apart m met inside w k (spreads_of_data (length met) o ++ rest) o is t.chain s.short goes)
            (ap (λ l. walk fs m (met ++ (x ∷ [])) (l ++ rest)) (sym (body_spreads (length met) o)) ∙ goes)

        module _ (name : List ℕ) (names : List (List ℕ)) (behind_it : Claim (suc b) names) (m : ℕ) (met : List Met) (left inside : List ℕ) (w : Option ℕ) (others : List Spread) (h : suc m ≤ suc b)
            (fuel : suc m ≡ suc (length names) + (length others + unmet (is_met met) fs)) (s : State met left inside w) (apart : NoneInside inside (name ∷ names)) where
          passed : walk fs m met (map (spread_within w) names ++ others) ≡ final → Walked m met left inside names others
          passed on = behind_it m met left inside w others (omega (arith, h)) (omega (arith, fuel)) s apart.1 on

          entered_name : (k : ℕ) → place_of_name fragment_name fs name ≡ Some k → is_met met k ≡ false
              → walk fs m (met ++ (met_at k w ∷ [])) (spreads_of_data (length met) (slice_get fs k) ++ (map (spread_within w) names ++ others)) ≡ final → Walked (suc m) met left inside (name ∷ names) others
          entered_name k is new on =
              let a = entered_walk m met left inside w k (slice_get fs k) names others (omega (arith, h)) fuel new refl s on in
              let t = left_state m met left inside w k (slice_get fs k) (map (spread_within w) names ++ others) new s refl a in
              let long : length (map (spread_within w) names ++ others) ≡ length names + length others = length-append (map (spread_within w) names) others ∙ ap (λ l. l + length others) (length-map names (spread_within w)) in
              let less = a.less in
              let filled = a.fuel in
              let c = behind_it a.steps a.later_met (k ∷ a.later) inside w others (omega (arith, h, less)) (omega (arith, filled, long)) t apart.1 a.goes in
              let more : c.later_met ≡ met ++ ((met_at k w ∷ []) ++ (a.more ++ c.more)) =
              c.grown ∙ (ap (λ l. l ++ c.more) a.grown ∙ (append_assoc (met ++ (met_at k w ∷ [])) a.more c.more ∙ append_assoc met (met_at k w ∷ []) (a.more ++ c.more))) in
              let grown = length-append met (met_at k w ∷ []) in
              let fewer = c.less in
              let first = a.count in
              let second = c.count in
              record {
                steps = c.steps;
                less = omega (arith, less, fewer);
                later_met = c.later_met;
                later = c.later;
                goes = c.goes;
                fuel = c.fuel;
                more = (met_at k w ∷ []) ++ (a.more ++ c.more);
                grown = more;
                kept = λ y g. c.kept y (behind y k a.later (a.kept y g));
                split = c.split;
                within = c.within;
                apart = c.apart;
                ordered = c.ordered;
                count = omega (arith, first, second, grown);
                spread = (subst (InLeft c.later) (sym is) (c.kept k (at_first k a.later)), c.spread);
              }

          by_met : (k : ℕ) (e' : Bool) → place_of_name fragment_name fs name ≡ Some k → is_met met k ≡ e'
              → (if e' then walk fs m met (map (spread_within w) names ++ others) else walk fs m (met ++ (met_at k w ∷ [])) (spreads_of_data (length met) (slice_get fs k) ++ (map (spread_within w) names ++ others))) ≡ final
              → Walked (suc m) met left inside (name ∷ names) others
          by_met k true is e on =
              let a = passed on in
              with_name (suc m) m met left inside name names others (omega arith) a (subst (InLeft a.later) (sym is) (⊎_elim
              (λ (g : among left k ≡ true). a.kept k g)
              (λ (g : among inside k ≡ true). clash (among inside k) g (sym (ap (is_inside inside) is) ∙ apart.0))
              (s.split k e)))
          by_met k false is e on = entered_name k is e on

          by_place : (o : Option ℕ) → place_of_name fragment_name fs name ≡ o → look_at fs (walk fs m) met (spread_within w name) (map (spread_within w) names ++ others) o ≡ final → Walked (suc m) met left inside (name ∷ names) others
          by_place None is on = let a = passed on in with_name (suc m) m met left inside name names others (omega arith) a (subst (InLeft a.later) (sym is) tt)
          by_place (Some k) is on = by_met k (is_met met k) is refl on

        names_walk : (names : List (List ℕ)) → Claim (suc b) names
        names_walk [] n met left inside w others h fuel s apart goes = done n met left inside w others (omega (arith, fuel)) s goes
        names_walk (name ∷ names) zero met left inside w others h fuel s apart goes = absurd (omega (arith, fuel))
        names_walk (name ∷ names) (suc m) met left inside w others h fuel s apart goes =
            by_place name names (names_walk names) m met left inside w others h fuel s apart (place_of_name fragment_name fs name) refl
            (sym (walk_looks fs m met (spread_within w name) (map (spread_within w) names ++ others)) ∙ goes)

      no_walk : (names : List (List ℕ)) → Claim zero names
      no_walk [] n met left inside w others h fuel s apart goes = done n met left inside w others (omega (arith, fuel)) s goes
      no_walk (name ∷ names) n met left inside w others h fuel s apart goes = absurd (omega (arith, h, fuel))

      claim : (b : ℕ) (names : List (List ℕ)) → Claim b names
      claim zero = no_walk
      claim (suc b) = names_walk b (claim b)

-- what was reached has ranks
pub ranks : (fs : List FragmentData) (below : SelectionTrees)
    → ((place : ℕ) (m : Met) (f : FragmentData) → slice_get (reached fs below) place ≡ Some m → slice_get fs m.fragment ≡ Some f → NoneInside fs (inside_at (reached fs below) (Some place)) (spreads_in f.below))
    → HasRanks fs (reached fs below) below
ranks fs below acyclic =
    let n : ℕ = length (spreads_in below) + spread_count fs in
    let start : State fs [] [] [] None = record { chain = refl; short = omega arith; split = λ k h. absurd (true≢false (sym h)); within = λ k h. absurd (true≢false (sym h)); entered = λ k h. absurd (true≢false (sym h)); apart = λ k h. absurd (true≢false (sym h)); ordered = tt } in
    let a = claim fs (reached fs below) acyclic n (spreads_in below) n [] [] [] None [] (omega arith) (let e = none_met fs in omega (arith, e)) start (nothing fs (spreads_in below))
    (ap (walk fs n []) (append-nil (spreads_within None below))) in
    let same : a.later_met ≡ reached fs below = sym (walk_ends fs a.steps a.later_met) ∙ a.goes in
    let within : (k : ℕ) → among a.later k ≡ true → is_met (reached fs below) k ≡ true = λ k h. subst (λ z. is_met z k ≡ true) same (a.within k h) in
    let all : length a.later ≡ length (reached fs below) = (let c = a.count in let l = ap length same in omega (arith, c, l)) in
    record {
      rank = rank_in fs a.later;
      selections = subst (λ r. AreBelow (rank_in fs a.later) fs (reached fs below) (suc r) (spreads_in below)) all (are_below fs (reached fs below) a.later within (suc (length a.later)) (spreads_in below) (all_lower fs a.later (spreads_in below) a.spread));
      inside = λ number f there is. are_below fs (reached fs below) a.later within (rank_in fs a.later number) (spreads_in f.below) (ordered_lower fs a.later a.ordered number f
          (⊎_elim (λ (g : among a.later number ≡ true). g) (λ (g : among [] number ≡ true). absurd (true≢false (sym g))) (a.split number (subst (λ z. is_met z number ≡ true) (sym same) there))) is);
    }
  where
    nothing : (gs : List FragmentData) (names : List (List ℕ)) → NoneInside gs [] names
    nothing gs [] = tt
    nothing gs (name ∷ names) = (by (place_of_name fragment_name gs name), nothing gs names)
      where
        by : (o : Option ℕ) → is_inside [] o ≡ false
        by None = refl
        by (Some k) = refl

-- What the walk meets is what is reached, each fragment once; and what it is inside of leads on to where it is.
use Rattle.std.proofs.Common.{◌≡◌, ◌⊎◌, inl, inr, ⊎_elim, ℕ, zero, suc, ◌+◌, ◌<◌, ◌||◌, nat_eq, Bool, true, false, true≢false, if◌then◌else◌, List, [], ◌∷◌, ◌++◌, map, length, Option, None, Some, refl, sym, ap, ◌∙◌, subst, arith}
use Rattle.std.specs.Prelude.{slice_get}
use Rattle.std.proofs.Math.Bool.{or-true}
use Rattle.std.proofs.lemmas.Bool.{cases_Bool, eq-eqb, eqb-true}
use Rattle.std.proofs.lemmas.List.{length-append}
use Rattle.std.proofs.lemmas.Option.{same_Some, none-some, slice_get_within}
use Rattle.gql_base.specs.names.Names.{place_of_name}
use Rattle.document_reader.specs.Documents.{SelectionTrees}
use Rattle.document_rules.specs.Parts.{FragmentData, fragment_name}
use Rattle.document_rules.specs.Met.{Met, Spread, spreads_in, spread_within, spreads_within, spreads_of_data, is_met, met_at, look_at, walk, reached, spread_count, outward, outward_from, inside_at}
use Rattle.document_rules.specs.Reached.{IsOneOf, SpreadsOne, IsSpreadFrom, AreSpreadBefore, Leads, LeadsTo, AreReaching}
use Rattle.document_rules.proofs.SpreadSteps.{met_more, spreads_at}
use Rattle.document_rules.proofs.RankSteps.{among, which, slice_more, slice_last, unmet, unmet_once, none_met}

-- ---- lists that grow by one at the end

abbrev with_last : List Met → Met → List Met
with_last met m = met ++ (m ∷ [])

long_last : (met : List Met) (m : Met) → length (with_last met m) ≡ suc (length met)
long_last met m = let l = length-append met (m ∷ []) in omega (arith, l)

-- what stands at a place stood there before, or is the last
at_last : (met : List Met) (x : Met) (i : ℕ) (m : Met) → slice_get (with_last met x) i ≡ Some m → (slice_get met i ≡ Some m) ⊎ ((i ≡ length met) × (m ≡ x))
at_last [] x zero m is = inr (refl, sym (same_Some x m is))
at_last [] x (suc i) m is = absurd (none-some m is)
at_last (y ∷ met) x zero m is = inl is
at_last (y ∷ met) x (suc i) m is = ⊎_elim
    (λ (h : slice_get met i ≡ Some m). inl h)
    (λ (h : (i ≡ length met) × (m ≡ x)). inr (ap suc h.0, h.1))
    (at_last met x i m is)

met_here : (met : List Met) (i : ℕ) (m : Met) → slice_get met i ≡ Some m → is_met met m.fragment ≡ true
met_here [] i m is = absurd (none-some m is)
met_here (y ∷ met) zero m is = ap (λ k. nat_eq k y.fragment || is_met met k) (sym (ap (λ (z : Met). z.fragment) (same_Some y m is))) ∙ ap (λ b. b || is_met met y.fragment) (eq-eqb y.fragment y.fragment refl)
met_here (y ∷ met) (suc i) m is = ap (λ b. nat_eq m.fragment y.fragment || b) (met_here met i m is) ∙ or-true (nat_eq m.fragment y.fragment)

pub record Found (met : List Met) (number : ℕ) : Type 0 where
  pub place : ℕ
  pub met_there : Met
  pub is : slice_get met place ≡ Some met_there
  pub same : met_there.fragment ≡ number

found : (met : List Met) (number : ℕ) → is_met met number ≡ true → Found met number
found [] number h = absurd (true≢false (sym h))
found (y ∷ met) number h = by (found met number) (cases_Bool (nat_eq number y.fragment))
  where
    by : (is_met met number ≡ true → Found met number) → (nat_eq number y.fragment ≡ true) ⊎ (nat_eq number y.fragment ≡ false) → Found (y ∷ met) number
    by later (inl e) = record { place = 0; met_there = y; is = refl; same = sym (eqb-true number y.fragment e) }
    by later (inr e) = let f = later (sym (ap (λ b. b || is_met met number) e) ∙ h) in record { place = suc f.place; met_there = f.met_there; is = f.is; same = f.same }

-- ---- names

abbrev names_of : List Spread → List (List ℕ)
names_of [] = []
names_of (s ∷ spreads) = s.name ∷ names_of spreads

one_front : (xs ys : List (List ℕ)) (name : List ℕ) → IsOneOf xs name → IsOneOf (xs ++ ys) name
one_front [] ys name h = absurd h
one_front (x ∷ xs) ys name (inl e) = inl e
one_front (x ∷ xs) ys name (inr h) = inr (one_front xs ys name h)

one_behind : (xs ys : List (List ℕ)) (name : List ℕ) → IsOneOf ys name → IsOneOf (xs ++ ys) name
one_behind [] ys name h = h
one_behind (x ∷ xs) ys name h = inr (one_behind xs ys name h)

names_both : (xs ys : List Spread) → names_of (xs ++ ys) ≡ names_of xs ++ names_of ys
names_both [] ys = refl
names_both (x ∷ xs) ys = ap (λ l. x.name ∷ l) (names_both xs ys)

names_within : (w : Option ℕ) (names : List (List ℕ)) → names_of (map (spread_within w) names) ≡ names
names_within w [] = refl
names_within w (name ∷ names) = ap (λ l. name ∷ l) (names_within w names)

module _ (fs : List FragmentData) (below : SelectionTrees) where
  -- ---- where each fragment that was met is spread

  abbrev Source : List Met → Option ℕ → ℕ → ℕ → Type 0
  Source met w i number = IsSpreadFrom fs below met w i number

  abbrev AllSourced : List Met → Type 0
  AllSourced met = AreSpreadBefore fs below met

  -- a spread to come stands in the selections, or in a fragment that was met
  abbrev Stands : List Met → Option ℕ → List ℕ → Type 0
  Stands met None name = IsOneOf (spreads_in below) name
  Stands met (Some p) name = (p < length met) × ((q : Met) × (slice_get met p ≡ Some q) × ((f : FragmentData) × (slice_get fs q.fragment ≡ Some f) × IsOneOf (spreads_in f.below) name))

  abbrev AllStand : List Met → List Spread → Type 0
  AllStand met [] = Unit {0}
  AllStand met (s ∷ spreads) = Stands met s.within s.name × AllStand met spreads

  source_more : (met : List Met) (x : Met) (w : Option ℕ) (i number : ℕ) → Source met w i number → Source (with_last met x) w i number
  source_more met x None i number s = s
  source_more met x (Some p) i number s = (s.0, (s.1.0, slice_more met (x ∷ []) p s.1.0 s.1.1, s.1.2))

  stand_more : (met : List Met) (x : Met) (w : Option ℕ) (name : List ℕ) → Stands met w name → Stands (with_last met x) w name
  stand_more met x None name s = s
  stand_more met x (Some p) name s = (let l = long_last met x in let h = s.0 in omega (arith, l, h), (s.1.0, slice_more met (x ∷ []) p s.1.0 s.1.1, s.1.2))

  all_more : (met : List Met) (x : Met) (spreads : List Spread) → AllStand met spreads → AllStand (with_last met x) spreads
  all_more met x [] s = tt
  all_more met x (y ∷ spreads) s = (stand_more met x y.within y.name s.0, all_more met x spreads s.1)

  all_both : (met : List Met) (xs ys : List Spread) → AllStand met xs → AllStand met ys → AllStand met (xs ++ ys)
  all_both met [] ys a b = b
  all_both met (x ∷ xs) ys a b = (a.0, all_both met xs ys a.1 b)

  all_of : (met : List Met) (w : Option ℕ) (names : List (List ℕ)) → ((name : List ℕ) → IsOneOf names name → Stands met w name) → AllStand met (map (spread_within w) names)
  all_of met w [] each = tt
  all_of met w (name ∷ names) each = (each name (inl refl), all_of met w names (λ other h. each other (inr h)))

  body_stands : (met : List Met) (k : ℕ) (w : Option ℕ) (o : Option FragmentData) → slice_get fs k ≡ o → AllStand (with_last met (met_at k w)) (spreads_of_data (length met) o)
  body_stands met k w None is = tt
  body_stands met k w (Some f) is =
      let l = long_last met (met_at k w) in
      all_of (with_last met (met_at k w)) (Some (length met)) (spreads_in f.below) (λ name h. (omega (arith, l), (met_at k w, slice_last met (met_at k w), (f, is, h))))

  -- a spread that stands somewhere and names a fragment is its source
  named_source : (met : List Met) (w : Option ℕ) (name : List ℕ) (k : ℕ) → Stands met w name → place_of_name fragment_name fs name ≡ Some k → Source (with_last met (met_at k w)) w (length met) k
  named_source met None name k s is = (name, s, is)
  named_source met (Some p) name k s is = (s.0, (s.1.0, slice_more met (met_at k (Some p) ∷ []) p s.1.0 s.1.1, (let f = s.1.2 in (f.0, f.1, (name, f.2, is)))))

  sourced_more : (met : List Met) (w : Option ℕ) (name : List ℕ) (k : ℕ) → AllSourced met → Stands met w name → place_of_name fragment_name fs name ≡ Some k → AllSourced (with_last met (met_at k w))
  sourced_more met w name k all s is i m there = ⊎_elim
      (λ (h : slice_get met i ≡ Some m). source_more met (met_at k w) m.within i m.fragment (all i m h))
      (λ (h : (i ≡ length met) × (m ≡ met_at k w)). subst (λ (z : Met). Source (with_last met (met_at k w)) z.within i z.fragment) (sym h.1) (subst (λ n. Source (with_last met (met_at k w)) w n k) (sym h.0) (named_source met w name k s is)))
      (at_last met (met_at k w) i m there)

  -- ---- each once

  abbrev Once : List Met → Type 0
  Once met = (i j : ℕ) (a b : Met) → i < j → slice_get met i ≡ Some a → slice_get met j ≡ Some b → a.fragment ≡ b.fragment → ⊥

  once_more : (met : List Met) (x : Met) → Once met → is_met met x.fragment ≡ false → Once (with_last met x)
  once_more met x once new i j a b less at_i at_j same = ⊎_elim
      (λ (h : slice_get met j ≡ Some b). earlier h)
      (λ (h : (j ≡ length met) × (b ≡ x)). last h)
      (at_last met x j b at_j)
    where
      earlier : slice_get met j ≡ Some b → ⊥
      earlier h = ⊎_elim
          (λ (g : slice_get met i ≡ Some a). once i j a b less g h same)
          (λ (g : (i ≡ length met) × (a ≡ x)). let w = slice_get_within met j b h in let e = g.0 in absurd (omega (arith, w, e, less)))
          (at_last met x i a at_i)

      last : (j ≡ length met) × (b ≡ x) → ⊥
      last h = ⊎_elim
          (λ (g : slice_get met i ≡ Some a). true≢false (sym (met_here met i a g) ∙ (ap (is_met met) (same ∙ ap (λ (z : Met). z.fragment) h.1) ∙ new)))
          (λ (g : (i ≡ length met) × (a ≡ x)). let e = g.0 in let f = h.0 in absurd (omega (arith, e, f, less)))
          (at_last met x i a at_i)

  -- ---- what is spread was met or is to come

  abbrev IsHandled : List Met → List Spread → List ℕ → Type 0
  IsHandled met spreads name = (k : ℕ) → place_of_name fragment_name fs name ≡ Some k → (is_met met k ≡ true) ⊎ IsOneOf (names_of spreads) name

  record IsClosed (met : List Met) (spreads : List Spread) : Type 0 where
    selections : (name : List ℕ) → IsOneOf (spreads_in below) name → IsHandled met spreads name
    inside : (number : ℕ) (f : FragmentData) → is_met met number ≡ true → slice_get fs number ≡ Some f → (name : List ℕ) → IsOneOf (spreads_in f.below) name → IsHandled met spreads name

  -- a spread was looked at, whose fragment, if it has one, was met
  handled_past : (met : List Met) (s : Spread) (others : List Spread) (name : List ℕ) → ((k : ℕ) → place_of_name fragment_name fs s.name ≡ Some k → is_met met k ≡ true) → IsHandled met (s ∷ others) name → IsHandled met others name
  handled_past met s others name done h k is = by (h k is)
    where
      by : (is_met met k ≡ true) ⊎ ((s.name ≡ name) ⊎ IsOneOf (names_of others) name) → (is_met met k ≡ true) ⊎ IsOneOf (names_of others) name
      by (inl e) = inl e
      by (inr (inl e)) = inl (done k (ap (place_of_name fragment_name fs) e ∙ is))
      by (inr (inr g)) = inr g

  closed_past : (met : List Met) (s : Spread) (others : List Spread) → ((k : ℕ) → place_of_name fragment_name fs s.name ≡ Some k → is_met met k ≡ true) → IsClosed met (s ∷ others) → IsClosed met others
  closed_past met s others done c = record {
    selections = λ name h. handled_past met s others name done (c.selections name h);
    inside = λ number f met_it is name h. handled_past met s others name done (c.inside number f met_it is name h);
  }

  met_grown : (met : List Met) (x : Met) (k : ℕ) → is_met met k ≡ true → is_met (with_last met x) k ≡ true
  met_grown met x k h = met_more met x k ∙ ap (λ b. b || nat_eq k x.fragment) h

  met_last : (met : List Met) (x : Met) → is_met (with_last met x) x.fragment ≡ true
  met_last met x = met_more met x x.fragment ∙ (ap (λ b. is_met met x.fragment || b) (eq-eqb x.fragment x.fragment refl) ∙ or-true (is_met met x.fragment))

  body_names : (place : ℕ) (o : Option FragmentData) (f : FragmentData) → o ≡ Some f → names_of (spreads_of_data place o) ≡ spreads_in f.below
  body_names place None f is = absurd (none-some f is)
  body_names place (Some g) f is = names_within (Some place) (spreads_in g.below) ∙ ap (λ (h : FragmentData). spreads_in h.below) (same_Some g f is)

  -- the fragment of a spread is entered
  handled_entered : (met : List Met) (s : Spread) (others : List Spread) (k : ℕ) (name : List ℕ) → place_of_name fragment_name fs s.name ≡ Some k → IsHandled met (s ∷ others) name
      → IsHandled (with_last met (met_at k s.within)) (spreads_of_data (length met) (slice_get fs k) ++ others) name
  handled_entered met s others k name here h j is = by (h j is)
    where
      by : (is_met met j ≡ true) ⊎ ((s.name ≡ name) ⊎ IsOneOf (names_of others) name) → (is_met (with_last met (met_at k s.within)) j ≡ true) ⊎ IsOneOf (names_of (spreads_of_data (length met) (slice_get fs k) ++ others)) name
      by (inl e) = inl (met_grown met (met_at k s.within) j e)
      by (inr (inl e)) =
          let same : k ≡ j = same_Some k j (sym here ∙ (ap (place_of_name fragment_name fs) e ∙ is)) in
          inl (subst (λ n. is_met (with_last met (met_at k s.within)) n ≡ true) same (met_last met (met_at k s.within)))
      by (inr (inr g)) = inr (subst (λ l. IsOneOf l name) (sym (names_both (spreads_of_data (length met) (slice_get fs k)) others)) (one_behind (names_of (spreads_of_data (length met) (slice_get fs k))) (names_of others) name g))

  closed_entered : (met : List Met) (s : Spread) (others : List Spread) (k : ℕ) → place_of_name fragment_name fs s.name ≡ Some k → IsClosed met (s ∷ others)
      → IsClosed (with_last met (met_at k s.within)) (spreads_of_data (length met) (slice_get fs k) ++ others)
  closed_entered met s others k here c = record {
    selections = λ name h. handled_entered met s others k name here (c.selections name h);
    inside = λ number f met_it is name h. by number f is name h (cases_Bool (is_met met number)) met_it;
  }
    where
      new : (number : ℕ) (f : FragmentData) → slice_get fs number ≡ Some f → (name : List ℕ) → IsOneOf (spreads_in f.below) name → number ≡ k → IsHandled (with_last met (met_at k s.within)) (spreads_of_data (length met) (slice_get fs k) ++ others) name
      new number f is name h same j named =
          let body : names_of (spreads_of_data (length met) (slice_get fs k)) ≡ spreads_in f.below = body_names (length met) (slice_get fs k) f (ap (slice_get fs) (sym same) ∙ is) in
          inr (subst (λ l. IsOneOf l name) (sym (names_both (spreads_of_data (length met) (slice_get fs k)) others)) (one_front (names_of (spreads_of_data (length met) (slice_get fs k))) (names_of others) name (subst (λ l. IsOneOf l name) (sym body) h)))

      by : (number : ℕ) (f : FragmentData) → slice_get fs number ≡ Some f → (name : List ℕ) → IsOneOf (spreads_in f.below) name → (is_met met number ≡ true) ⊎ (is_met met number ≡ false) → is_met (with_last met (met_at k s.within)) number ≡ true
          → IsHandled (with_last met (met_at k s.within)) (spreads_of_data (length met) (slice_get fs k) ++ others) name
      by number f is name h (inl e) met_it = handled_entered met s others k name here (c.inside number f e is name h)
      by number f is name h (inr e) met_it = new number f is name h (eqb-true number k (sym (ap (λ b. b || nat_eq number k) e) ∙ (sym (met_more met (met_at k s.within) number) ∙ met_it)))

  -- ---- the walk

  record HasWalked (met : List Met) : Type 0 where
    sourced : AllSourced met
    once : Once met
    closed : IsClosed met []

  body_long : (place : ℕ) (o : Option FragmentData) → length (spreads_of_data place o) ≡ spreads_at o
  body_long place None = refl
  body_long place (Some f) = long_within (spreads_in f.below)
    where
      long_within : (names : List (List ℕ)) → length (map (spread_within (Some place)) names) ≡ length names
      long_within [] = refl
      long_within (name ∷ names) = ap suc (long_within names)

  abbrev Walks : ℕ → Type 0
  Walks n = (met : List Met) (spreads : List Spread) → n ≡ length spreads + unmet (is_met met) fs → AllSourced met → Once met → AllStand met spreads → IsClosed met spreads → HasWalked (walk fs n met spreads)

  module _ (n : ℕ) (again : Walks n) (met : List Met) (s : Spread) (others : List Spread) (fuel : suc n ≡ suc (length others) + unmet (is_met met) fs) (sourced : AllSourced met) (once : Once met) (stand : AllStand met (s ∷ others))
      (closed : IsClosed met (s ∷ others)) where
    passed : ((k : ℕ) → place_of_name fragment_name fs s.name ≡ Some k → is_met met k ≡ true) → HasWalked (walk fs n met others)
    passed done = again met others (omega (arith, fuel)) sourced once stand.1 (closed_past met s others done closed)

    entered : (k : ℕ) → place_of_name fragment_name fs s.name ≡ Some k → is_met met k ≡ false → HasWalked (walk fs n (with_last met (met_at k s.within)) (spreads_of_data (length met) (slice_get fs k) ++ others))
    entered k is new =
        let x : Met = met_at k s.within in
        let body = spreads_of_data (length met) (slice_get fs k) in
        let less : unmet (is_met (with_last met x)) fs + spreads_at (slice_get fs k) ≡ unmet (is_met met) fs = unmet_once (is_met met) (is_met (with_last met x)) fs k (λ y. met_more met x y) new in
        let long = length-append body others in
        let own = body_long (length met) (slice_get fs k) in
        again (with_last met x) (body ++ others) (omega (arith, fuel, less, long, own)) (sourced_more met s.within s.name k sourced stand.0 is) (once_more met x once new)
        (all_both (with_last met x) body others (body_stands met k s.within (slice_get fs k) refl) (all_more met x others stand.1)) (closed_entered met s others k is closed)

    by_met : (k : ℕ) (b : Bool) → place_of_name fragment_name fs s.name ≡ Some k → is_met met k ≡ b
        → HasWalked (if b then walk fs n met others else walk fs n (with_last met (met_at k s.within)) (spreads_of_data (length met) (slice_get fs k) ++ others))
    by_met k true is e = passed (λ j there. subst (λ y. is_met met y ≡ true) (same_Some k j (sym is ∙ there)) e)
    by_met k false is e = entered k is e

    looked : (o : Option ℕ) → place_of_name fragment_name fs s.name ≡ o → HasWalked (look_at fs (walk fs n) met s others o)
    looked None none = passed (λ k there. absurd (none-some k (sym none ∙ there)))
    looked (Some k) is = by_met k (is_met met k) is refl

  walked : (n : ℕ) → Walks n
  unfolding walk
  walked zero met [] fuel sourced once stand closed = record { sourced = sourced; once = once; closed = closed }
  walked (suc n) met [] fuel sourced once stand closed = record { sourced = sourced; once = once; closed = closed }
  walked zero met (s ∷ others) fuel sourced once stand closed = absurd (omega (arith, fuel))
  walked (suc n) met (s ∷ others) fuel sourced once stand closed = looked n (walked n) met s others fuel sourced once stand closed (place_of_name fragment_name fs s.name) refl

  start : HasWalked (reached fs below)
  start = walked (length (spreads_in below) + spread_count fs) [] (spreads_within None below)
      (let e = none_met fs in let l = long (spreads_in below) in omega (arith, e, l))
      (λ i m is. absurd (none-some m is)) (λ i j a b less is there same. none-some a is)
      (all_of [] None (spreads_in below) (λ name h. h))
      (record { selections = λ name h k is. inr (subst (λ l. IsOneOf l name) (sym (names_within None (spreads_in below))) h); inside = λ number f met_it is name h. absurd (true≢false (sym met_it)) })
    where
      long : (names : List (List ℕ)) → length (map (spread_within None) names) ≡ length names
      long [] = refl
      long (name ∷ names) = ap suc (long names)

  -- ---- what it says

  leads_more : (from : ℕ) (through : List ℕ) (to next : ℕ) → Leads fs from through to → SpreadsOne fs to next → Leads fs from (through ++ (next ∷ [])) next
  leads_more from [] to next is one = (subst (λ k. SpreadsOne fs k next) (sym is) one, refl)
  leads_more from (k ∷ through) to next is one = (is.0, leads_more k through to next is.1 one)

  leads_to_more : (from to next : ℕ) → LeadsTo fs from to → SpreadsOne fs to next → LeadsTo fs from next
  leads_to_more from to next is one = (is.0 ++ (next ∷ []), leads_more from is.0 to next is.1 one)

  reach_at : (most i : ℕ) (m : Met) → i < most → slice_get (reached fs below) i ≡ Some m → AreReaching fs below m.fragment
  reach_at zero i m less is = absurd (omega (arith, less))
  reach_at (suc most) i m less is = by (reach_at most) m.within ((start.sourced) i m is)
    where
      by : ((j : ℕ) (q : Met) → j < most → slice_get (reached fs below) j ≡ Some q → AreReaching fs below q.fragment) → (w : Option ℕ) → Source (reached fs below) w i m.fragment → AreReaching fs below m.fragment
      by before None s = (m.fragment, s, ([], refl))
      by before (Some p) s =
          let h = s.0 in
          let r = before p s.1.0 (omega (arith, h, less)) s.1.1 in
          (r.0, r.1, leads_to_more r.0 (s.1.0).fragment m.fragment r.2 s.1.2)

  pub only_reached : (number : ℕ) → is_met (reached fs below) number ≡ true → AreReaching fs below number
  only_reached number h =
      let f = found (reached fs below) number h in
      subst (AreReaching fs below) f.same (reach_at (suc f.place) f.place f.met_there (omega arith) f.is)

  met_next : (from next : ℕ) → is_met (reached fs below) from ≡ true → SpreadsOne fs from next → is_met (reached fs below) next ≡ true
  met_next from next h one = ⊎_elim (λ (e : is_met (reached fs below) next ≡ true). e) (λ (e : ⊥). absurd e) (((start.closed).inside) from one.0 h one.1 (one.2).0 (one.2).1 next (one.2).2)

  met_through : (from : ℕ) (through : List ℕ) (to : ℕ) → is_met (reached fs below) from ≡ true → Leads fs from through to → is_met (reached fs below) to ≡ true
  met_through from [] to h is = subst (λ k. is_met (reached fs below) k ≡ true) is h
  met_through from (next ∷ through) to h is = met_through next through to (met_next from next h is.0) is.1

  pub all_reached : (number : ℕ) → AreReaching fs below number → is_met (reached fs below) number ≡ true
  all_reached number r =
      let first = ⊎_elim (λ (e : is_met (reached fs below) r.0 ≡ true). e) (λ (e : ⊥). absurd e) (((start.closed).selections) (r.1).0 (r.1).1 r.0 (r.1).2) in
      met_through r.0 (r.2).0 number first (r.2).1

  pub reached_before : AreSpreadBefore fs below (reached fs below)
  reached_before = start.sourced

  pub reached_once : Once (reached fs below)
  reached_once = start.once

  inside_leads : (n place : ℕ) (m : Met) (number : ℕ) → slice_get (reached fs below) place ≡ Some m → among (outward n (reached fs below) (Some place)) number ≡ true → LeadsTo fs number m.fragment
  unfolding outward
  inside_leads zero place m number is h = absurd (true≢false (sym h))
  inside_leads (suc n) place m number is h = ⊎_elim
      (λ (e : number ≡ m.fragment). ([], e))
      (λ (g : among (outward n (reached fs below) m.within) number ≡ true). by (inside_leads n) m.within ((start.sourced) place m is) g)
      (which number m.fragment (outward n (reached fs below) m.within) (subst (λ o. among (outward_from (outward n (reached fs below)) o) number ≡ true) is h))
    where
      nothing : (k : ℕ) → among (outward k (reached fs below) None) number ≡ true → ⊥
      nothing zero g = true≢false (sym g)
      nothing (suc k) g = true≢false (sym g)

      by : ((p : ℕ) (q : Met) (k : ℕ) → slice_get (reached fs below) p ≡ Some q → among (outward n (reached fs below) (Some p)) k ≡ true → LeadsTo fs k q.fragment) → (w : Option ℕ) → Source (reached fs below) w place m.fragment
          → among (outward n (reached fs below) w) number ≡ true → LeadsTo fs number m.fragment
      by before None s g = absurd (nothing n g)
      by before (Some p) s g = leads_to_more number (s.1.0).fragment m.fragment (before p s.1.0 number s.1.1 g) s.1.2

  pub inside_is_cycle : (place : ℕ) (m : Met) (number : ℕ) → slice_get (reached fs below) place ≡ Some m → among (inside_at (reached fs below) (Some place)) number ≡ true → LeadsTo fs number m.fragment
  inside_is_cycle place m number is h = inside_leads (length (reached fs below)) place m number is h

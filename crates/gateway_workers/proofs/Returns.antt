-- Passes that were split off come back, each with the calls that its worker made.
use Rattle.std.proofs.Common.{◌≡◌, ℕ, ◌+◌, ◌<◌, List, [], ◌∷◌, ◌++◌, Bool, true, false, cond, length, map, refl, sym, ap, ◌∙◌, subst, append_assoc, append-nil, arith, nat_le, get_or}
use Rattle.std.proofs.lemmas.List.{length-map}
use Rattle.std.proofs.lemmas.Bool.{eq-eqb}
use Rattle.std.specs.List.{AllByRecursion}
use Rattle.account_core.specs.Machine.{Entry}
use Rattle.account_core.specs.History.{StartsWith}
use Rattle.account_core.proofs.AllowanceLaw.{keeps}
use Rattle.account_cells.specs.Views.{View, no_view, after_split, split_off, longer_of, shorter_of, without_name}
use Rattle.account_shared.specs.Views.{PassesView, AccountsView, Label, Belongs, IsKept, JoinsTo, limit_of, client_at}
use Rattle.account_shared.specs.Gains.{entries_for, Gains}
use Rattle.account_shared.proofs.Stretches.{none_gained}
use Rattle.gateway_workers.specs.Tours.{Tour, calls_in}
use Rattle.gateway_workers.specs.Joins.{ended_by, JoinTours, GivesBack, IsSplitOff, IsAfterSplit, IsJoined, SplitsTo, JoinsAll}
use Rattle.gateway_workers.proofs.Lists.{map_at}
use Rattle.gateway_workers.proofs.Splits.{as_many}

-- ---- what was seen

starts_same : (xs : List Entry) → StartsWith xs xs
starts_same xs = ([], sym (append-nil xs))

starts_then : (a b c : List Entry) → StartsWith b a → StartsWith c b → StartsWith c a
starts_then a b c first second = (first.0 ++ second.0, second.1 ∙ (ap (λ l. l ++ second.0) first.1 ∙ append_assoc a first.0 second.0))

-- the longer of two nested histories begins with each
longer_starts : (xs ys : List Entry) → StartsWith (longer_of xs ys) (shorter_of xs ys) → StartsWith (longer_of xs ys) xs
longer_starts xs ys nested = by_length (nat_le (length ys) (length xs)) nested
  where
    by_length : (b : Bool) → StartsWith (cond b xs ys) (cond b ys xs) → StartsWith (cond b xs ys) xs
    by_length true h = starts_same xs
    by_length false h = h

-- ---- one client

-- what is known of a client once the passes of these tours came back
pub record ComesBack (client splits : ℕ) (tours : List Tour) (before now : View) : Type 0 where
  begins : StartsWith now.seen before.seen
  own : now.own ≡ before.own
  ended : now.ended ≡ ended_by client splits tours ++ before.ended

-- its passes came back, after those of the other tours
comes_back : (client splits : ℕ) (tour : Tour) (tours : List Tour) (before next mid other now : View) → next ≡ after_split before → ComesBack client (splits + 1) tours next mid → JoinsTo other mid now → other.name ≡ splits + 1
    → other.own ≡ entries_for client (splits + 1) 0 (calls_in tour.runs) → ComesBack client splits (tour ∷ tours) before now
unfolding ended_by
comes_back client splits tour tours before next mid other now split back joins name own = record {
  begins = starts_then before.seen mid.seen now.seen (subst (λ (xs : List Entry). StartsWith mid.seen xs) (ap (λ (v : View). v.seen) split) back.begins)
      (subst (λ (xs : List Entry). StartsWith xs mid.seen) (sym (ap (λ (v : View). v.seen) joins.same)) (longer_starts mid.seen other.seen joins.nested));
  own = ap (λ (v : View). v.own) joins.same ∙ (back.own ∙ ap (λ (v : View). v.own) split);
  ended = ap (λ (v : View). v.ended) joins.same
      ∙ ((λ i. record { name = name i; entries = own i } ∷ back.ended i) ∙ ap (λ (v : View). record { name = splits + 1; entries = entries_for client (splits + 1) 0 (calls_in tour.runs) } ∷ ended_by client (splits + 1) tours ++ v.ended) split);
}

-- ---- all passes

-- each of the passes made just the calls of its tour
unfoldable pub Went : AccountsView → List PassesView → List PassesView → List Tour → Type 0
Went accounts [] [] [] = Unit {0}
Went accounts (p ∷ ps) (q ∷ qs) (tour ∷ tours) = (Gains p q (calls_in tour.runs) × Belongs q accounts) × Went accounts ps qs tours
Went accounts _ _ _ = ⊥

pub record Returned (splits : ℕ) (tours : List Tour) (before now : PassesView) : Type 0 where
  pub made : now.made ≡ before.made
  pub name : now.label.name ≡ before.label.name
  pub out : now.label.out ≡ before.label.out
  pub splits_are : now.label.splits ≡ before.label.splits + length tours
  pub count : length now.clients ≡ length before.clients
  pub clients : (client : ℕ) → client < length before.clients → ComesBack client splits tours (client_at before client) (client_at now client)

none_returned : (before p now : PassesView) → (p.made ≡ before.made) × (p.clients ≡ before.clients) × (p.label ≡ before.label) → now ≡ p → Returned before.label.splits [] before now
unfolding ended_by
none_returned before p now same is =
    let clients : now.clients ≡ before.clients = ap (λ (q : PassesView). q.clients) is ∙ same.1 in
    let label : now.label ≡ before.label = ap (λ (q : PassesView). q.label) is ∙ same.2 in
    let at : (k : ℕ) → client_at now k ≡ client_at before k = λ k. ap (λ (vs : List View). get_or vs k no_view) clients in
    record {
      made = ap (λ (q : PassesView). q.made) is ∙ same.0;
      name = ap (λ (l : Label). l.name) label;
      out = ap (λ (l : Label). l.out) label;
      splits_are = omega (arith, ap (λ (l : Label). l.splits) label);
      count = ap (λ (vs : List View). length vs) clients;
      clients = λ k low. record {
        begins = subst (λ (v : View). StartsWith v.seen (client_at before k).seen) (sym (at k)) (starts_same (client_at before k).seen);
        own = ap (λ (v : View). v.own) (at k);
        ended = ap (λ (v : View). v.ended) (at k);
      };
    }

name_leaves : (n : ℕ) (xs : List ℕ) → without_name n (n ∷ xs) ≡ xs
name_leaves n xs = ap (λ b. cond b xs (n ∷ without_name n xs)) (eq-eqb n n refl)

one_returned : (accounts : AccountsView) (before next p q mid now : PassesView) (tour : Tour) (tours : List Tour) → IsSplitOff before p → IsAfterSplit before next → Gains p q (calls_in tour.runs) → Belongs q accounts
    → Returned next.label.splits tours next mid → IsJoined mid q now → Returned before.label.splits (tour ∷ tours) before now
one_returned accounts before next p q mid now tour tours off after gained belong rest joined =
    let splits = before.label.splits in
    let named : q.label.name ≡ splits + 1 = ap (λ (l : Label). l.name) gained.label ∙ ap (λ (l : Label). l.name) off.label in
    let parted : next.label.splits ≡ splits + 1 = ap (λ (l : Label). l.splits) after.label in
    let many : length next.clients ≡ length before.clients = ap (λ (vs : List View). length vs) after.clients ∙ length-map before.clients after_split in
    let many_off : length p.clients ≡ length before.clients = ap (λ (vs : List View). length vs) off.clients ∙ length-map before.clients split_off in
    let many_q : length q.clients ≡ length before.clients = as_many p q (map limit_of p.clients) refl gained.limits ∙ many_off in
    record {
      made = joined.made ∙ (rest.made ∙ after.made);
      name = ap (λ (l : Label). l.name) joined.label ∙ (rest.name ∙ ap (λ (l : Label). l.name) after.label);
      out = ap (λ (l : Label). l.out) joined.label
          ∙ ((λ i. without_name (named i) ((rest.out ∙ ap (λ (l : Label). l.out) after.label) i)) ∙ name_leaves (splits + 1) before.label.out);
      splits_are = let e = ap (λ (l : Label). l.splits) joined.label in omega (arith, e, rest.splits_are, parted);
      count = joined.count ∙ (rest.count ∙ many);
      clients = λ k low.
          let low_next : k < length next.clients = subst (λ n. k < n) (sym many) low in
          let low_mid : k < length mid.clients = subst (λ n. k < n) (sym rest.count) low_next in
          let low_q : k < length q.clients = subst (λ n. k < n) (sym many_q) low in
          let fresh : (client_at p k).own ≡ [] =
          ap (λ (vs : List View). (get_or vs k no_view).own) off.clients ∙ ap (λ (v : View). v.own) (map_at split_off before.clients k no_view no_view low) in
          let own : (client_at q k).own ≡ entries_for k (splits + 1) 0 (calls_in tour.runs) =
          (gained.clients k).own
          ∙ (λ i. fresh i ++ entries_for k ((ap (λ (l : Label). l.name) off.label) i) (off.made i) (calls_in tour.runs)) in
          comes_back k splits tour tours (client_at before k) (client_at next k) (client_at mid k) (client_at q k) (client_at now k)
          (ap (λ (vs : List View). get_or vs k no_view) after.clients ∙ map_at after_split before.clients k no_view no_view low)
          (subst (λ n. ComesBack k n tours (client_at next k) (client_at mid k)) parted (rest.clients k low_next))
          (joined.joined k low_mid)
          (ap (λ (l : Label). l.name) (belong.known k low_q).same_label ∙ named)
          own;
    }

pub all_returned : (accounts : AccountsView) (before mid now : PassesView) (ps qs : List PassesView) (tours : List Tour) → SplitsTo before ps mid → Went accounts ps qs tours → JoinsAll mid qs now → Returned before.label.splits tours before now
unfolding SplitsTo Went JoinsAll
all_returned accounts before mid now [] [] [] so went joins = none_returned before mid now so joins
all_returned accounts before mid now [] [] (tour ∷ tours) so went joins = absurd went
all_returned accounts before mid now [] (q ∷ qs) tours so went joins = absurd went
all_returned accounts before mid now (p ∷ ps) [] tours so went joins = absurd went
all_returned accounts before mid now (p ∷ ps) (q ∷ qs) [] so went joins = absurd went
all_returned accounts before mid now (p ∷ ps) (q ∷ qs) (tour ∷ tours) so went joins =
    one_returned accounts before so.1.0 p q joins.0 now tour tours so.0 so.1.1 went.0.0 went.0.1 (all_returned accounts so.1.0 mid joins.0 ps qs tours so.1.2 went.1 joins.1) joins.2

-- ---- what the contracts say

is_kept : (p : PassesView) (accounts : AccountsView) → Belongs p accounts → (k : ℕ) → k < length p.clients → IsKept (client_at p k)
is_kept p accounts belong k low = let v = client_at p k in let legal = (belong.known k low).legal in record { legal = legal; kept = keeps v.limit v.seen legal }

pub join_tours : (accounts : AccountsView) (before now : PassesView) (tours : List Tour) → Belongs now accounts → Returned before.label.splits tours before now → JoinTours before.label.splits tours before now
join_tours accounts before now tours belong back = record {
  made = back.made;
  name = back.name;
  out = back.out;
  splits_are = back.splits_are;
  count = back.count;
  clients = λ k low. let one = back.clients k low in record {
    begins = one.begins;
    kept = is_kept now accounts belong k (subst (λ n. k < n) (sym back.count) low);
    own = one.own;
    ended = one.ended;
  };
}

pub gives_back : {D : Type 0} (accounts : AccountsView) (doors : List D) (before now : PassesView) (tours : List Tour) → Belongs now accounts → Returned before.label.splits tours before now → GivesBack doors doors before now
gives_back accounts doors before now tours belong back = record {
  same = refl;
  made = back.made;
  name = back.name;
  out = back.out;
  count = back.count;
  clients = λ k low. let one = back.clients k low in record {
    begins = one.begins;
    kept = is_kept now accounts belong k (subst (λ n. k < n) (sym back.count) low);
    own = one.own;
  };
}

pub gives_back_at_once : {D : Type 0} (accounts : AccountsView) (doors : List D) (p : PassesView) → Belongs p accounts → GivesBack doors doors p p
gives_back_at_once accounts doors p belong = gives_back accounts doors p p [] belong (none_returned p p p (refl, refl, refl) refl)

-- ---- passes through which no call was made

still : List PassesView → List Tour
still [] = []
still (p ∷ ps) = record { runs = []; failed = false } ∷ still ps

went_still : (accounts : AccountsView) (ps : List PassesView) → AllByRecursion (λ p. Belongs p accounts) ps → Went accounts ps ps (still ps)
unfolding Went still calls_in
went_still accounts [] belong = tt
went_still accounts (p ∷ ps) belong = ((none_gained p, belong.0), went_still accounts ps belong.1)

pub gives_back_still : {D : Type 0} (accounts : AccountsView) (doors : List D) (before mid now : PassesView) (ps : List PassesView) → SplitsTo before ps mid → AllByRecursion (λ p. Belongs p accounts) ps → JoinsAll mid ps now
    → Belongs now accounts → GivesBack doors doors before now
gives_back_still accounts doors before mid now ps so belongs joins belong =
    gives_back accounts doors before now (still ps) belong (all_returned accounts before mid now ps ps (still ps) so (went_still accounts ps belongs) joins)

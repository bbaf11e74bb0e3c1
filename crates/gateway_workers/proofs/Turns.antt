-- The connections that a worker serves, one after the other.
use Rattle.std.proofs.Common.{◌≡◌, ℕ, ◌+◌, ◌≤◌, List, [], ◌∷◌, ◌++◌, length, refl, sym, ap, ◌∙◌, subst, append_assoc, append-nil, arith, false, Option, Some, None}
use Rattle.std.proofs.lemmas.List.{length-append}
use Rattle.std.specs.Prelude.{IfSome, IfNone}
use Rattle.account_shared.specs.Views.{PassesView, AccountsView, Belongs, IsIdle}
use Rattle.account_shared.specs.Gains.{ClientCall, Gains}
use Rattle.account_shared.proofs.Stretches.{none_gained, gained_then}
use Rattle.doors.specs.Visits.{Told, Visit, given_by, after_visit, Gained}
use Rattle.doors.specs.Starts.{DoorMembers}
use Rattle.gateway_connections.specs.PassedOn.{numbers_taken}
use Rattle.gateway_connections.proofs.PassedOn.{taken_none, taken_then}
use Rattle.gateway_connections.specs.declared.ending.Served.{Served}
use Rattle.gateway_connections.specs.declared.ending.ConnectionEnd.TheVariants as ending
use Rattle.outside.specs.Faults.{Rose}
use Rattle.gateway_connections.specs.Exchanges.{Service}
use Rattle.gateway_connections.specs.Connections.{end_number}
use Rattle.gateway_connections.specs.Serving.{Serves}
use Rattle.gateway_workers.specs.declared.worker.Worker.{Worker}
use Rattle.gateway_workers.specs.Tours.{Run, AreRuns, visit_of, visits_of, calls_in, replies_in}
use Rattle.gateway_workers.specs.Workers.{Did, Waits}

-- ---- options

pub some_at : {A : Type 0} (P : A → Type 0) (o : Option A) (x : A) → o ≡ Some x → IfSome o P → P x
some_at P o x is h = subst (λ k. IfSome k P) is h

pub none_at : {A : Type 0} (P : Type 0) (o : Option A) → o ≡ None → IfNone o P → P
none_at P o is h = subst (λ k. IfNone k P) is h

-- ---- visits

pub one_visit : (old mid new : Option (List Visit)) (given : Option Told) (told back : Told) (n end : ℕ) → mid ≡ old → given ≡ given_by old told → new ≡ after_visit mid given back n → n ≡ end
    → Gained old (record { given = told; back = back; ending = end } ∷ []) new
one_visit None mid new given told back n end same out now is = now ∙ (λ i. after_visit (same i) (out i) back n)
one_visit (Some visits) mid new given told back n end same out now is = now ∙ (λ i. after_visit (same i) (out i) back (is i))

pub no_visit : (old new : Option (List Visit)) → new ≡ old → Gained old [] new
no_visit None new same = same
no_visit (Some visits) new same = same ∙ ap Some (sym (append-nil visits))

pub visits_then : (a b c : Option (List Visit)) (xs ys : List Visit) → Gained a xs b → Gained b ys c → Gained a (xs ++ ys) c
visits_then None b c xs ys first second = subst (λ k. Gained k ys c) first second
visits_then (Some old) b c xs ys first second =
    let more : Gained (Some (old ++ xs)) ys c = subst (λ k. Gained k ys c) first second in more ∙ ap Some (append_assoc old xs ys)

-- ---- lists of connections

pub visits_of_both : (rs ss : List Run) → visits_of (rs ++ ss) ≡ visits_of rs ++ visits_of ss
visits_of_both [] ss = refl
visits_of_both (r ∷ rs) ss = ap (λ l. visit_of r ∷ l) (visits_of_both rs ss)

pub calls_of_both : (rs ss : List Run) → calls_in (rs ++ ss) ≡ calls_in rs ++ calls_in ss
unfolding calls_in
calls_of_both [] ss = refl
calls_of_both (r ∷ rs) ss = ap (λ l. r.calls ++ l) (calls_of_both rs ss) ∙ sym (append_assoc r.calls (calls_in rs) (calls_in ss))

pub replies_of_both : (rs ss : List Run) → replies_in (rs ++ ss) ≡ replies_in rs + replies_in ss
unfolding replies_in
replies_of_both [] ss = omega arith
replies_of_both (r ∷ rs) ss = omega (arith, replies_of_both rs ss)

pub runs_then : (s : Service) (made : ℕ) (rs ss : List Run) → AreRuns s made rs → AreRuns s (made + numbers_taken s.slots (calls_in rs)) ss → AreRuns s made (rs ++ ss)
unfolding AreRuns calls_in
runs_then s made [] ss first second = let e : made + numbers_taken s.slots [] ≡ made = omega (arith, taken_none s.slots) in subst (λ n. AreRuns s n ss) e second
runs_then s made (r ∷ rs) ss first second =
    let e : made + numbers_taken s.slots (r.calls ++ calls_in rs) ≡ (made + numbers_taken s.slots r.calls) + numbers_taken s.slots (calls_in rs) = omega (arith, taken_then s.slots r.calls (calls_in rs)) in
    (first.0, runs_then s (made + numbers_taken s.slots r.calls) rs ss first.1 (subst (λ n. AreRuns s n ss) e second))

-- ---- what a worker did

-- nothing, but that its door was asked
pub did_still : {D : Type 0} (t : DoorMembers D) (s : Service) (accounts : AccountsView) (v w : Worker D) → Belongs v.passes accounts → IsIdle v.passes → w.passes ≡ v.passes → w.connections ≡ v.connections → w.replies ≡ v.replies
    → t.visits w.door ≡ t.visits v.door → t.to_come w.door ≡ t.to_come v.door → t.out w.door ≡ false → Did t s accounts v w []
unfolding AreRuns calls_in replies_in
did_still t s accounts v w belong idle same connections replies visits to_come free = record {
  each = tt;
  visits = no_visit (t.visits v.door) (t.visits w.door) visits;
  gains = subst (λ (p : PassesView). Gains v.passes p []) (sym same) (none_gained v.passes);
  belong = subst (λ (p : PassesView). Belongs p accounts) (sym same) belong;
  idle = subst (λ (p : PassesView). IsIdle p) (sym same) idle;
  connections = omega (arith, connections);
  replies = omega (arith, replies);
  to_come = omega (arith, to_come);
  free = free;
  few = omega (arith, replies);
  made = omega (arith, ap (λ (p : PassesView). p.made) same);
}

-- one connection
pub did_one : {D : Type 0} (t : DoorMembers D) (s : Service) (accounts : AccountsView) (v w : Worker D) (told back : Told) (served : Served) (serves : Serves s v.passes.made (Gains v.passes w.passes) told back served) → (served.end ≡ ending.ReadFault → Rose told.read_faults back.read_faults) → (served.end ≡ ending.WriteFault → Rose told.write_faults back.write_faults) → Belongs w.passes accounts → IsIdle w.passes
    → Gained (t.visits v.door) (record { given = told; back = back; ending = end_number served.end } ∷ []) (t.visits w.door)
    → w.connections ≡ v.connections + 1 → w.replies ≡ v.replies + served.replies → t.to_come v.door ≡ t.to_come w.door + 1 → t.out w.door ≡ false → served.replies ≤ 1000 → w.passes.made ≤ v.passes.made + 2000
    → Did t s accounts v w (record { given = told; back = back; calls = serves.calls; served = served } ∷ [])
unfolding AreRuns calls_in replies_in
did_one t s accounts v w told back served serves read written belong idle visits connections replies to_come free few made = record {
  each = ((serves.runs, record { read = read; written = written }), tt);
  visits = visits;
  gains = subst (λ (cs : List ClientCall). Gains v.passes w.passes cs) (sym (append-nil serves.calls)) serves.gains;
  belong = belong;
  idle = idle;
  connections = connections;
  replies = omega (arith, replies);
  to_come = to_come;
  free = free;
  few = omega (arith, replies, few);
  made = omega (arith, made);
}

-- some connections, and then others, where each call takes a number
pub did_then : {D : Type 0} (t : DoorMembers D) (s : Service) → s.slots ≡ None → (accounts : AccountsView) (v u w : Worker D) (rs ss : List Run) → Did t s accounts v u rs → Did t s accounts u w ss → Did t s accounts v w (rs ++ ss)
did_then t s cells accounts v u w rs ss first second =
    let count : length (rs ++ ss) ≡ length rs + length ss = length-append rs ss in record {
      each = runs_then s v.passes.made rs ss first.each
          (subst (λ k. AreRuns s (v.passes.made + numbers_taken k (calls_in rs)) ss) (sym cells) (subst (λ n. AreRuns s n ss) first.gains.made second.each));
      visits = subst (λ l. Gained (t.visits v.door) l (t.visits w.door)) (sym (visits_of_both rs ss))
          (visits_then (t.visits v.door) (t.visits u.door) (t.visits w.door) (visits_of rs) (visits_of ss) first.visits second.visits);
      gains = subst (λ l. Gains v.passes w.passes l) (sym (calls_of_both rs ss)) (gained_then v.passes u.passes w.passes (calls_in rs) (calls_in ss) first.gains second.gains);
      belong = second.belong;
      idle = second.idle;
      connections = omega (arith, count, first.connections, second.connections);
      replies = omega (arith, replies_of_both rs ss, first.replies, second.replies);
      to_come = omega (arith, count, first.to_come, second.to_come);
      free = second.free;
      few = omega (arith, count, first.few, second.few);
      made = omega (arith, count, first.made, second.made);
    }

pub did_none : {D : Type 0} (t : DoorMembers D) (s : Service) (accounts : AccountsView) (v : Worker D) → Waits t accounts v → Did t s accounts v v []
did_none t s accounts v waits = did_still t s accounts v v waits.belong waits.idle refl refl refl refl refl waits.free

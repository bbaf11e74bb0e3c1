-- The connections that a worker serves over a journal, one after the other.
use Rattle.std.proofs.Common.{◌≡◌, ℕ, ◌+◌, ◌<◌, ◌≤◌, List, [], ◌∷◌, ◌++◌, length, refl, sym, ap, ◌∙◌, subst, append-nil, arith, Option, inl, inr, ⊎_elim, Bool, true, false}
use Rattle.std.specs.List.{AllByRecursion}
use Rattle.std.proofs.lemmas.List.{length-append}
use Rattle.account_shared.specs.Gains.{ClientCall}
use Rattle.account_journal.specs.declared.journal.Journal.{Journal}
use Rattle.outside.specs.Faults.{Rose}
use Rattle.doors.specs.Visits.{Told, Gained}
use Rattle.doors.specs.Starts.{DoorMembers}
use Rattle.gateway_workers.specs.PassedOn.{Gate, Served, ReadFault as EndingReadFault, WriteFault as EndingWriteFault, end_number, WireTelling}
use Rattle.gateway_workers.proofs.PassedOn.{taken_then}
use Rattle.gateway_workers.specs.declared.work_done.WorkDone.{WorkDone}
use Rattle.gateway_workers.specs.Tours.{Run, AreRuns, visits_of, calls_in, replies_in, one_if}
use Rattle.gateway_workers.proofs.Turns.{no_visit, visits_then, visits_of_both, calls_of_both, replies_of_both, runs_then}
use Rattle.gateway_journal.specs.declared.worker.KeptWorker.{KeptWorker}
use Rattle.gateway_journal.specs.Kept.{kept_slots, kept_of_calls, HasKept, IsKeptFor, IsLostIn}
use Rattle.gateway_journal.specs.Composed.{each_both, counts_then, goes_then, none_gained}
use Rattle.gateway_journal.specs.Served.{service_kept, ServesKept, LosesKept}
use Rattle.gateway_journal.specs.DoorRuns.{DiskMembers, Did, Waits, Loses, Worked, ServesDoor, LosesDoor}
use Rattle.gateway_journal.proofs.ServedCalls.{none_kept}

module _ {J : Type 0} (reads : J → Option (List ℕ)) (image : J → List ℕ → Type 0) (faults : J → ℕ) where
  pub kept_none : (a b : Journal J) → b ≡ a → HasKept reads image faults a b []
  kept_none a b same = subst (λ (j : Journal J). HasKept reads image faults a j []) (sym same) (none_kept reads image faults a a (none_gained reads image faults a))

  pub kept_twice : (a b c : Journal J) (xs ys : List ClientCall) → HasKept reads image faults a b xs → HasKept reads image faults b c ys → HasKept reads image faults a c (xs ++ ys)
  kept_twice a b c xs ys one two = record {
    limits = two.limits ∙ one.limits;
    known = each_both (λ c. c.client < length a.limits.items) xs ys one.known (subst (λ (l : _). AllByRecursion (λ c. c.client < length l.items) ys) one.limits two.known);
    used = omega (arith, one.used, two.used, taken_then kept_slots xs ys);
    opened = (let counts = counts_then xs ys in omega (arith, one.opened, two.opened, counts.0, counts.1));
    tells = two.tells ∙ one.tells;
    count = omega (arith, one.count, two.count);
    goes = λ hs follows.
        let first_ = one.goes hs follows in
        goes_then reads image faults a b c xs ys hs one.limits one.used first_ (two.goes (hs ++ kept_of_calls a.used xs) first_.follows);
  }

module _ {D J : Type 0} (t : DoorMembers D) (m : DiskMembers J) (gate : Gate) where
  -- nothing, but that the door was asked
  pub did_still : (v w : KeptWorker D J) → IsKeptFor m.reads v.kept.journal gate → v.kept.journal.opened ≡ 0 → w.kept.journal ≡ v.kept.journal → w.connections ≡ v.connections → w.replies ≡ v.replies
      → t.visits w.door ≡ t.visits v.door → t.to_come w.door ≡ t.to_come v.door → t.out w.door ≡ false → Did t m gate v w []
  unfolding AreRuns calls_in replies_in
  did_still v w belongs idle same connections replies visits to_come free = record {
    stretch = record {
      each = tt;
      visits = no_visit (t.visits v.door) (t.visits w.door) visits;
      keeps = kept_none m.reads m.image m.faults v.kept.journal w.kept.journal same;
      to_come = omega (arith, to_come);
      free = free;
    };
    belongs = subst (λ (j : Journal J). IsKeptFor m.reads j gate) (sym same) belongs;
    idle = subst (λ (j : Journal J). j.opened ≡ 0) (sym same) idle;
    connections = omega (arith, connections);
    replies = omega (arith, replies);
    few = omega (arith, replies);
  }

  pub did_none : (v : KeptWorker D J) → Waits t m gate v → Did t m gate v v []
  did_none v waits = did_still v v waits.belongs waits.idle refl refl refl refl refl waits.free

  -- one connection
  pub did_one : (v w : KeptWorker D J) (told back : Told) (served : Served) (serves : ServesKept m.reads m.image m.faults gate v.kept.journal w.kept.journal told back served)
      → (served.end ≡ EndingReadFault → Rose told.read_faults back.read_faults) → (served.end ≡ EndingWriteFault → Rose told.write_faults back.write_faults)
      → IsKeptFor m.reads w.kept.journal gate → w.kept.journal.opened ≡ 0
      → Gained (t.visits v.door) (record { given = told; back = back; ending = end_number served.end } ∷ []) (t.visits w.door)
      → w.connections ≡ v.connections + 1 → w.replies ≡ v.replies + served.replies → t.to_come v.door ≡ t.to_come w.door + 1 → t.out w.door ≡ false → served.replies ≤ 1000
      → Did t m gate v w (record { given = told; back = back; calls = serves.calls; served = served } ∷ [])
  unfolding AreRuns calls_in replies_in
  did_one v w told back served serves read written belongs idle visits connections replies to_come free few = record {
    stretch = record {
      each = ((serves.runs, record { read = read; written = written }), tt);
      visits = visits;
      keeps = subst (λ (cs : List ClientCall). HasKept m.reads m.image m.faults v.kept.journal w.kept.journal cs) (sym (append-nil serves.calls)) serves.gains;
      to_come = to_come;
      free = free;
    };
    belongs = belongs;
    idle = idle;
    connections = connections;
    replies = omega (arith, replies);
    few = omega (arith, replies, few);
  }

  -- some connections, and then others
  pub did_then : (v u w : KeptWorker D J) (rs ss : List Run) → Did t m gate v u rs → Did t m gate u w ss → Did t m gate v w (rs ++ ss)
  did_then v u w rs ss first second =
      let count : length (rs ++ ss) ≡ length rs + length ss = length-append rs ss in
      let one = first.stretch in
      let two = second.stretch in record {
        stretch = record {
          each = runs_then (service_kept gate) v.kept.journal.used rs ss one.each (subst (λ n. AreRuns (service_kept gate) n ss) one.keeps.used two.each);
          visits = subst (λ l. Gained (t.visits v.door) l (t.visits w.door)) (sym (visits_of_both rs ss))
              (visits_then (t.visits v.door) (t.visits u.door) (t.visits w.door) (visits_of rs) (visits_of ss) one.visits two.visits);
          keeps = subst (λ l. HasKept m.reads m.image m.faults v.kept.journal w.kept.journal l) (sym (calls_of_both rs ss))
              (kept_twice m.reads m.image m.faults v.kept.journal u.kept.journal w.kept.journal (calls_in rs) (calls_in ss) one.keeps two.keeps);
          to_come = omega (arith, count, one.to_come, two.to_come);
          free = two.free;
        };
        belongs = second.belongs;
        idle = second.idle;
        connections = omega (arith, count, first.connections, second.connections);
        replies = omega (arith, replies_of_both rs ss, first.replies, second.replies);
        few = omega (arith, count, first.few, second.few);
      }

-- a connection in which a call on the disk failed
pub lost_one : {D J W : Type 0} (t : DoorMembers D) (m : DiskMembers J) (tell : WireTelling W) (gate : Gate) (v w : KeptWorker D J) (given back : Told) (wire : W) (replies : ℕ)
    → back.log ≡ tell.log wire → back.dial_faults ≡ tell.dial_faults wire → back.transfer_faults ≡ tell.faults wire
    → LosesKept m.reads m.image m.faults (λ j. IsLostIn m.reads m.image m.moment m.image_since j w.kept.journal.disk) tell gate v.kept.journal given back wire replies
    → Rose (m.faults v.kept.journal.disk) (m.faults w.kept.journal.disk) → Gained (t.visits v.door) (record { given = given; back = back; ending = 6 } ∷ []) (t.visits w.door)
    → t.to_come v.door ≡ t.to_come w.door + 1 → t.out w.door ≡ false → w.connections ≡ v.connections + 1 → w.replies ≡ v.replies + replies → Loses t m tell gate v w
lost_one t m tell gate v w given back wire replies logs dials transfers lost rose visit to_come free connections written = record {
  written = replies;
  lost = record { given = given; back = back; wire = wire; logs = logs; dials = dials; transfers = transfers; lost = lost; rose = rose; visit = visit; to_come = to_come; free = free };
  connections = connections;
  replies = written;
}

-- ---- a door

module _ {D J W : Type 0} (t : DoorMembers D) (m : DiskMembers J) (tell : WireTelling W) (gate : Gate) (most : ℕ) (v w : KeptWorker D J) (done : WorkDone) (connected : v.connections ≡ 0) (replied : v.replies ≡ 0)
    (connections : done.connections ≡ w.connections) (exchanges : done.exchanges ≡ w.replies) (faults : done.faults ≡ one_if w.failed) where
  -- where it tells that the accounts are still there
  pub still_there : (stands : Bool) → stands ≡ true → Worked t m tell gate most v w stands → Worked t m tell gate most v w true
  still_there stands is = subst (Worked t m tell gate most v w) is

  pub serves_door : Worked t m tell gate most v w true → ServesDoor t m gate most v.kept.journal w.kept.journal v.door w.door done
  serves_door (runs, did, few, ends) = record {
    runs = runs;
    stretch = did.stretch;
    few = few;
    connections = omega (arith, connections, did.connections, connected);
    exchanges = omega (arith, exchanges, did.replies, replied);
    ends = ⊎_elim (λ e. inl (faults ∙ ap one_if e.0, e.1, e.2)) (λ e. inr (faults ∙ ap one_if e.0, e.1)) ends;
  }

  loses_so : Worked t m tell gate most v w false → LosesDoor t m tell gate most v.kept.journal w.kept.journal.disk v.door w.door done
  loses_so (u, runs, did, few, loses, still, calm) = record {
    so_far = u.kept.journal;
    between = u.door;
    runs = runs;
    stretch = did.stretch;
    idle = did.idle;
    few = few;
    replies = loses.written;
    lost = loses.lost;
    connections = omega (arith, connections, loses.connections, did.connections, connected);
    exchanges = omega (arith, exchanges, loses.replies, did.replies, replied);
    calm = (faults ∙ ap one_if calm, still);
  }

  pub loses_door : (disk : J) → disk ≡ w.kept.journal.disk → (stands : Bool) → stands ≡ false → Worked t m tell gate most v w stands → LosesDoor t m tell gate most v.kept.journal disk v.door w.door done
  loses_door disk same stands is worked =
      subst (λ (d : J). LosesDoor t m tell gate most v.kept.journal d v.door w.door done) (sym same) (loses_so (subst (Worked t m tell gate most v w) is worked))

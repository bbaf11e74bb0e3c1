-- How serving over a journal ends, by histories.
use Rattle.std.proofs.Common.{◌≡◌, ℕ, ◌-◌, ◌≤◌, ◌⊎◌, min, List, [], ◌∷◌, ◌++◌, length, map, take, drop, slice_index_or, All, nat_lt, refl, sym, ap, ◌∙◌, subst, arith, Option, Some, None, Result, Ok, Err, inl, inr, true, false, true≢false}
use Rattle.std.specs.Prelude.{IfSome, is_some}
use Rattle.account_core.specs.Machine.{Entry}
use Rattle.outside.specs.Faults.{Rose}
use Rattle.doors.specs.Starts.{DoorMembers, IsNew, Stopped, stopped_by, connections_of}
use Rattle.doors.specs.Visits.{Visit}
use Rattle.journal_disk.specs.Shutting.{shut_with}
use Rattle.account_journal.specs.declared.journal.Journal.{Journal}
use Rattle.account_journal.specs.Recovery.{IsRecoveredFrom, recovered_history}
use Rattle.account_journal.specs.Histories.{history_in}
use Rattle.account_journal.specs.Slots.{bodies}
use Rattle.account_journal.specs.Reading.{IsIntact, RoseIfFailed}
use Rattle.account_journal.specs.declared.reading.OpenFault.{OpenFault}
use Rattle.account_journal.specs.declared.reading.OpenFault.TheVariants as unopened
use Rattle.gateway_journal.specs.PassedOn.{Gate, limits_of, WireTelling, LosesServing}
use Rattle.gateway_serving.specs.PassedOn.{WorkDone, calls_in, visits_of, one_if}
use Rattle.gateway_serving.proofs.PassedOn.{visits_then}
use Rattle.gateway_serving.specs.declared.asked.Serving.{Serving}
use Rattle.gateway_serving.specs.Telling.{DoorsTold, StartAndStop, asked_of}
use Rattle.gateway_serving.proofs.DoorsBack.{has_risen, told_visits}
use Rattle.gateway_serving.proofs.AllServed.{start_and_stop}
use Rattle.gateway_journal.specs.Kept.{IsKeptFor, kept_of_calls}
use Rattle.gateway_journal.specs.Served.{service_kept}
use Rattle.gateway_journal.specs.DoorRuns.{DiskMembers, ServesDoor}
use Rattle.journal_serving.specs.declared.ending.KeptEnd.{KeptEnd}
use Rattle.journal_serving.specs.declared.ending.KeptFault.{KeptFault}
use Rattle.journal_serving.specs.declared.ending.KeptFault.TheVariants.{Disk, OtherClients, Damaged, NotStarted, Memory}
use Rattle.journal_serving.specs.Keeping.{Accounted, WireTold, wire_told, told_wires, HasAdded, LosesCall, HasGiven, WasServed, WasLost, WasLeft, EndsShut}
use Rattle.journal_serving.specs.OverJournals as over
use Rattle.journal_serving.proofs.Histories.{Stands, accounted, is_accounted, has_added, stands_on, told_as_well, each_told, tell_wire, serving_lost}

-- ---- the journal as it was opened

-- It is kept for the gate, nothing is open in it, and where its disk told what it held the history is the recovered one.
pub record WasOpened {J : Type 0} (m : DiskMembers J) (gate : Gate) (mark : List ℕ) (held : Option (List ℕ)) (opened : Journal J) : Type 0 where
  pub kept : IsKeptFor m.reads opened gate
  pub idle : opened.opened ≡ 0
  pub tells : is_some (m.reads opened.disk) ≡ is_some held
  pub intact : (b : List ℕ) → held ≡ Some b → IsIntact (limits_of gate) mark (bodies b)
  pub recovered : (b : List ℕ) → held ≡ Some b → IsRecoveredFrom m.reads m.image opened b

-- the history by which it is told
record HasHistory {J : Type 0} (m : DiskMembers J) (gate : Gate) (held : Option (List ℕ)) (opened : Journal J) : Type 0 where
  history : List Entry
  stands : Stands m.reads m.image (limits_of gate) opened history
  recovered : IfSome held (λ b. history ≡ recovered_history b)

has_history : {J : Type 0} (m : DiskMembers J) (gate : Gate) (mark : List ℕ) (held : Option (List ℕ)) (opened : Journal J) → WasOpened m gate mark held opened → HasHistory m gate held opened
has_history m gate mark None opened was = record {
  history = was.kept.history;
  stands = record { same = was.kept.limits; follows = was.kept.follows; stores = λ told. (let none = told_as_well (m.reads opened.disk) None was.tells told.0 told.1 in absurd (cc none.1)) };
  recovered = tt;
}
has_history m gate mark (Some b) opened was =
    let from = was.recovered b refl in
    record {
      history = recovered_history b;
      stands = record { same = was.kept.limits; follows = from.stands; stores = λ told. from.kept };
      recovered = refl;
    }

-- ---- the door

module _ {D J : Type 0} (t : DoorMembers D) (m : DiskMembers J) (gate : Gate) (connections : ℕ) (opened closed : Journal J) (door back : D) (done : WorkDone) where
  has_given : IsNew t connections door → (serves : ServesDoor t m gate connections opened closed door back done) → HasGiven connections serves.runs (stopped_by t connections back) done
  has_given new serves =
      let stretch = serves.stretch in
      let gave : connections - t.to_come back ≡ length serves.runs = omega (arith, stretch.to_come, new.to_come) in
      let ends = by_ends new serves.ends in
      record {
        visits = told_visits (t.visits door) (t.visits back) (visits_of serves.runs) new.fresh stretch.visits;
        gave = gave;
        whole = λ none. gave ∙ ends.1 none;
        connections_are = serves.connections;
        exchanges = serves.exchanges;
        faults = ends.0;
      }
    where
      by_ends : IsNew t connections door → ((done.faults ≡ 0) × (t.faults back ≡ t.faults door) × (length serves.runs ≡ min connections (t.to_come door))) ⊎ ((done.faults ≡ 1) × Rose (t.faults door) (t.faults back))
          → (done.faults ≡ one_if (nat_lt 0 (t.faults back))) × (nat_lt 0 (t.faults back) ≡ false → length serves.runs ≡ connections)
      by_ends new (inl calm) = (calm.0 ∙ sym (ap (λ n. one_if (nat_lt 0 n)) (calm.1 ∙ new.calm)), λ none. omega (arith, calm.2, new.to_come))
      by_ends new (inr failed) = let rose = has_risen (t.faults door) (t.faults back) failed.1 in (failed.0 ∙ sym (ap one_if rose), λ none. absurd (true≢false (sym rose ∙ none)))

-- ---- the end

module _ {D J W : Type 0} (t : DoorMembers D) (m : DiskMembers J) (tell : WireTelling W)
    (now_is_since : (d : J) (n : ℕ) (c : List ℕ) → n ≤ m.moment d → m.image d c → m.image_since d n c) (reads_is_image : (d : J) (told : List ℕ) → m.reads d ≡ Some told → m.image d told)
    (gate : Gate) (mark : List ℕ) (held : Option (List ℕ)) (opened : Journal J) (was : WasOpened m gate mark held opened) (disk : J) where
  is_intact : IfSome held (λ b. IsIntact (limits_of gate) mark (bodies b))
  is_intact = each_told held (λ b. IsIntact (limits_of gate) mark (bodies b)) was.intact

  was_served : (connections : ℕ) (stopped : Stopped) (end : KeptEnd) → over.WasServed t m gate connections opened stopped disk end
      → WasServed (service_kept gate) (limits_of gate) mark connections held (shut_with (m.reads disk) (m.faults disk)) stopped end
  was_served connections stopped end served =
      let first = has_history m gate mark held opened was in
      let hs = first.history in
      let serves = served.serves in
      let calls = calls_in serves.runs in
      let keeps = serves.stretch.keeps in
      let now = hs ++ kept_of_calls opened.used calls in
      let stands = stands_on m.reads m.image m.faults (limits_of gate) opened served.closed hs calls first.stands keeps in
      record {
        opened = accounted opened hs;
        closed = accounted served.closed now;
        before = is_accounted (limits_of gate) opened hs first.stands.same first.stands.follows was.idle;
        after = is_accounted (limits_of gate) served.closed now stands.same stands.follows served.idle;
        intact = is_intact;
        recovered = first.recovered;
        runs = serves.runs;
        each = serves.stretch.each;
        added = has_added m.reads m.image m.faults (limits_of gate) opened served.closed hs calls first.stands keeps;
        given = subst (λ (s : Stopped). HasGiven connections serves.runs s end.done) (sym served.stopped_is) (has_given t m gate connections opened served.closed served.door served.back end.done served.new serves);
        accounts = served.accounts;
        stored = each_told (m.reads disk) (λ b. history_in b ≡ now) (λ b is. (let there : m.reads served.closed.disk ≡ Some b = ap m.reads (sym served.disk_is) ∙ is in (stands.stores (b, there)).same b there));
      }

  was_lost : (connections : ℕ) (stopped : Stopped) → over.WasLost t m tell gate connections opened stopped disk → WasLost (service_kept gate) (limits_of gate) mark held (shut_with (m.reads disk) (m.faults disk)) stopped
  was_lost connections stopped it =
      let first = has_history m gate mark held opened was in
      let hs = first.history in
      let loses = it.loses in
      let last = loses.lost in
      let calls = calls_in loses.runs in
      let keeps = loses.stretch.keeps in
      let now = hs ++ kept_of_calls opened.used calls in
      let stands = stands_on m.reads m.image m.faults (limits_of gate) opened loses.so_far hs calls first.stands keeps in
      let wire : tell_wire tell last.wire ≡ wire_told last.back = λ i. record { log = sym last.logs i; dial_faults = sym last.dials i; faults = sym last.transfers i } in
      let visit : Visit = record { given = last.given; back = last.back; ending = 6 } in
      record {
        opened = accounted opened hs;
        so_far = accounted loses.so_far now;
        before = is_accounted (limits_of gate) opened hs first.stands.same first.stands.follows was.idle;
        until = is_accounted (limits_of gate) loses.so_far now stands.same stands.follows loses.idle;
        intact = is_intact;
        recovered = first.recovered;
        runs = loses.runs;
        each = loses.stretch.each;
        added = has_added m.reads m.image m.faults (limits_of gate) opened loses.so_far hs calls first.stands keeps;
        given = last.given;
        back = last.back;
        replies = loses.replies;
        lost = subst (λ (w : WireTold). LosesServing {B = Accounted} (service_kept gate) told_wires (λ k. k.used) (HasAdded (limits_of gate)) (LosesCall (m.reads disk)) (accounted loses.so_far now) last.given last.back w loses.replies) wire
            (serving_lost m.reads m.image m.faults m.moment m.image_since now_is_since reads_is_image (service_kept gate) tell (limits_of gate) disk last.wire loses.so_far now last.given last.back loses.replies stands loses.idle last.lost);
        visits = subst (λ (s : Stopped). IfSome s.visits (λ visits. visits ≡ visits_of loses.runs ++ visit ∷ [])) (sym it.stopped_is)
            (told_visits (t.visits it.door) (t.visits it.back) (visits_of loses.runs ++ visit ∷ []) it.new.fresh
            (visits_then (t.visits it.door) (t.visits loses.between) (t.visits it.back) (visits_of loses.runs) (visit ∷ []) loses.stretch.visits last.visit));
        failed = has_risen (m.faults loses.so_far.disk) (m.faults disk) last.rose;
      }

  was_left : disk ≡ opened.disk → WasLeft (limits_of gate) mark held (shut_with (m.reads disk) (m.faults disk))
  was_left same = record {
    intact = is_intact;
    stored = each_told held (λ b. IfSome (m.reads disk) (λ file. history_in file ≡ recovered_history b))
        (λ b is. each_told (m.reads disk) (λ file. history_in file ≡ recovered_history b) (λ file told. (was.recovered b is).kept.same file (ap m.reads (sym same) ∙ told)));
  }

  pub ends_shut : (serving : Serving) (before now : DoorsTold) (came_to : Result KeptEnd KeptFault) → over.WasKept t m tell gate serving opened before now disk came_to
      → EndsShut (service_kept gate) (limits_of gate) serving mark held (shut_with (m.reads disk) (m.faults disk)) before now came_to
  ends_shut serving before now (Ok end) (stopped, stops, served) = (stopped, stops, was_served serving.connections stopped end served)
  ends_shut serving before now (Err Disk) (stopped, stops, lost) = inr (inl (refl, (stopped, stops, was_lost serving.connections stopped lost)))
  ends_shut serving before now (Err NotStarted) none = inr (inr (inl (refl, none.0, none.1, was_left none.2)))
  ends_shut serving before now (Err Memory) none = inr (inr (inr (refl, none.0, none.1, was_left none.2)))
  ends_shut serving before now (Err OtherClients) never = absurd never
  ends_shut serving before now (Err (Damaged slot)) never = absurd never

-- ---- the doors as they were before the start

pub was_kept : {D J W : Type 0} (t : DoorMembers D) (m : DiskMembers J) (tell : WireTelling W) (gate : Gate) (serving : Serving) (opened : Journal J) (first before now : DoorsTold) (disk : J) (came_to : Result KeptEnd KeptFault)
    → before.stopped ≡ first.stopped → over.EndsOver t m tell gate serving opened before now disk came_to → over.WasKept t m tell gate serving opened first now disk came_to
was_kept t m tell gate serving opened first before now disk (Ok end) same (stopped, stops, served) =
    (stopped, record { asked = stops.asked; idle = stops.idle; grown = stops.grown ∙ ap (λ (l : List Stopped). l ++ stopped ∷ []) same }, served)
was_kept t m tell gate serving opened first before now disk (Err Disk) same (stopped, stops, lost) =
    (stopped, record { asked = stops.asked; idle = stops.idle; grown = stops.grown ∙ ap (λ (l : List Stopped). l ++ stopped ∷ []) same }, lost)
was_kept t m tell gate serving opened first before now disk (Err OtherClients) same never = absurd never
was_kept t m tell gate serving opened first before now disk (Err (Damaged slot)) same never = absurd never
was_kept t m tell gate serving opened first before now disk (Err NotStarted) same never = absurd never
was_kept t m tell gate serving opened first before now disk (Err Memory) same never = absurd never

-- ---- one door

pub one_door : {D : Type 0} (P : D → Type 0) (items : List D) (door : D) → length items ≡ 1 → door ≡ slice_index_or items 0 door → All P items → P door
one_door P items door one is all = subst P (sym is) (all 0 door (omega (arith, one)))

pub none_left : {D : Type 0} (items : List D) → length items ≡ 1 → take 0 items ++ drop 1 items ≡ []
none_left [] one = absurd (omega (arith, one))
none_left (d ∷ []) one = refl
none_left (d ∷ e ∷ items) one = absurd (omega (arith, one))

-- the one door was started, and stopped
pub stops_one : {D : Type 0} (t : DoorMembers D) (serving : Serving) (before now : DoorsTold) (items left pushed : List D) (door : D) → length items ≡ 1 → left ≡ take 0 items ++ drop 1 items → pushed ≡ left ++ door ∷ []
    → before.asked ≡ Some (asked_of serving) → now.asked ≡ before.asked → now.running ≡ 0 → now.stopped ≡ before.stopped ++ map (stopped_by t (connections_of before.asked)) pushed
    → StartAndStop serving before now (stopped_by t serving.connections door ∷ [])
stops_one t serving before now items left pushed door one left_is pushed_is asked same idle grown =
    start_and_stop t serving before now (door ∷ []) asked same idle
    (grown ∙ ap (λ l. before.stopped ++ map (stopped_by t (connections_of before.asked)) l) (pushed_is ∙ ap (λ l. l ++ door ∷ []) (left_is ∙ none_left items one)))

-- where a call on the disk failed its count is above 0
pub unopened_failed : (reason : OpenFault) (before after : ℕ) → RoseIfFailed reason before after → reason ≡ unopened.Failed → nat_lt 0 after ≡ true
unopened_failed unopened.Failed before after rose is = has_risen before after rose
unopened_failed unopened.OtherClients before after rose is = absurd (cc is)
unopened_failed (unopened.Damaged slot) before after rose is = absurd (cc is)
unopened_failed unopened.Memory before after rose is = absurd (cc is)

-- From what each worker did to what all of them did.
use Rattle.std.proofs.Common.{◌≡◌, ℕ, ◌+◌, ◌*◌, ◌≤◌, ◌<◌, inl, inr, List, [], ◌∷◌, length, refl, sym, ap, ◌∙◌, subst, arith, false, slice_index_or}
use Rattle.std.specs.List.{AllByRecursion}
use Rattle.account_shared.specs.Views.{PassesView, AccountsView, Belongs, IsIdle}
use Rattle.doors.specs.Starts.{DoorMembers}
use Rattle.gateway_connections.specs.Exchanges.{Service}
use Rattle.gateway_workers.specs.declared.worker.Worker.{Worker}
use Rattle.gateway_workers.specs.Tours.{Tour, AreRuns, AreTours, connections_of, replies_of, faults_of, one_if}
use Rattle.gateway_workers.specs.declared.work_done.WorkDone.{WorkDone}
use Rattle.gateway_workers.specs.Joins.{SplitsTo, JoinsAll}
use Rattle.gateway_workers.specs.Workers.{Waits, Worked, Serves, IsCounted, IsNewWorker, doors_of, passes_of, connections_in, answers_in, faults_in}
use Rattle.gateway_workers.proofs.Lists.{each_place, Beside, beside_places}
use Rattle.gateway_workers.proofs.Splits.{splits_fresh}
use Rattle.gateway_workers.proofs.Returns.{Went, all_returned, join_tours}

-- ---- before

all_fresh : (accounts : AccountsView) (ps : List PassesView) → AllByRecursion (λ p. Belongs p accounts) ps → AllByRecursion (λ p. IsIdle p × (p.made ≡ 0)) ps
    → AllByRecursion (λ p. Belongs p accounts × IsIdle p × (p.made ≡ 0)) ps
all_fresh accounts [] belongs fresh = tt
all_fresh accounts (p ∷ ps) belongs fresh = ((belongs.0, fresh.0.0, fresh.0.1), all_fresh accounts ps belongs.1 fresh.1)

all_wait : {D : Type 0} (t : DoorMembers D) (accounts : AccountsView) (vs : List (Worker D)) → AllByRecursion IsNewWorker vs → AllByRecursion (λ p. Belongs p accounts × IsIdle p × (p.made ≡ 0)) (passes_of vs)
    → AllByRecursion (λ d. t.out d ≡ false) (doors_of vs) → AllByRecursion (Waits t accounts) vs
all_wait t accounts [] new fresh free = tt
all_wait t accounts (v ∷ vs) new fresh free =
    (record { belong = fresh.0.0; idle = fresh.0.1; fresh = fresh.0.2; free = free.0; none = new.0 }, all_wait t accounts vs new.1 fresh.1 free.1)

pub waiting : {D : Type 0} (t : DoorMembers D) (accounts : AccountsView) (before mid : PassesView) (ps : List PassesView) (doors : List D) (vs : List (Worker D)) → SplitsTo before ps mid
    → ((k : ℕ) (p : PassesView) → k < length ps → Belongs (slice_index_or ps k p) accounts) → passes_of vs ≡ ps → doors_of vs ≡ doors → ((k : ℕ) (v : Worker D) → k < length vs → IsNewWorker (slice_index_or vs k v))
    → ((k : ℕ) (d : D) → k < length doors → t.out (slice_index_or doors k d) ≡ false) → AllByRecursion (Waits t accounts) vs
waiting t accounts before mid ps doors vs so belongs with_passes with_doors new free =
    all_wait t accounts vs (each_place IsNewWorker vs new)
    (subst (λ l. AllByRecursion (λ p. Belongs p accounts × IsIdle p × (p.made ≡ 0)) l) (sym with_passes)
    (all_fresh accounts ps (each_place (λ p. Belongs p accounts) ps belongs) (splits_fresh before mid ps so)))
    (subst (λ l. AllByRecursion (λ d. t.out d ≡ false) l) (sym with_doors) (each_place (λ d. t.out d ≡ false) doors free))

pub idle_of_fresh : (ps : List PassesView) → AllByRecursion (λ p. IsIdle p × (p.made ≡ 0)) ps → AllByRecursion IsIdle ps
idle_of_fresh [] fresh = tt
idle_of_fresh (p ∷ ps) fresh = (fresh.0.0, idle_of_fresh ps fresh.1)

-- ---- after

pub record Toured {D : Type 0} (t : DoorMembers D) (s : Service) (accounts : AccountsView) (most : ℕ) (vs ws : List (Worker D)) : Type 0 where
  pub tours : List Tour
  pub are_tours : AreTours t s most (doors_of vs) (doors_of ws) tours
  pub went : Went accounts (passes_of vs) (passes_of ws) tours
  pub belongs : AllByRecursion (λ p. Belongs p accounts) (passes_of ws)
  pub idle : AllByRecursion IsIdle (passes_of ws)
  pub connections : connections_in ws ≡ connections_of tours
  pub exchanges : answers_in ws ≡ replies_of tours
  pub faults : faults_in ws ≡ faults_of tours
  pub counted : AllByRecursion IsCounted ws

toured : {D : Type 0} (t : DoorMembers D) (s : Service) (accounts : AccountsView) (most : ℕ) (vs ws : List (Worker D)) → most ≤ 4294967295 → AllByRecursion (Waits t accounts) vs → Beside (Worked t s accounts most) vs ws
    → Toured t s accounts most vs ws
unfolding AreTours Went connections_of replies_of faults_of connections_in answers_in faults_in
toured t s accounts most [] [] few wait worked =
    record { tours = []; are_tours = tt; went = tt; belongs = tt; idle = tt; connections = refl; exchanges = refl; faults = refl; counted = tt }
toured t s accounts most [] (w ∷ ws) few wait worked = absurd worked
toured t s accounts most (v ∷ vs) [] few wait worked = absurd worked
toured t s accounts most (v ∷ vs) (w ∷ ws) few wait worked =
    let one = worked.0 in
    let did = one.did in
    let rest = toured t s accounts most vs ws few wait.1 worked.1 in
    record {
      tours = record { runs = one.runs; failed = w.failed } ∷ rest.tours;
      are_tours = (
        record {
          runs = subst (λ n. AreRuns s n one.runs) wait.0.fresh did.each;
          visits = did.visits;
          to_come = did.to_come;
          few = one.few;
          free = did.free;
          ends = one.ends;
        },
        rest.are_tours,
      );
      went = ((did.gains, did.belong), rest.went);
      belongs = (did.belong, rest.belongs);
      idle = (did.idle, rest.idle);
      connections = omega (arith, did.connections, wait.0.none.0, rest.connections);
      exchanges = omega (arith, did.replies, wait.0.none.1, rest.exchanges);
      faults = ap (λ n. one_if w.failed + n) rest.faults;
      counted = ((omega (arith, did.connections, wait.0.none.0, one.few, few), omega (arith, did.few, wait.0.none.1, one.few, few)), rest.counted);
    }

pub all_toured : {D : Type 0} (t : DoorMembers D) (s : Service) (accounts : AccountsView) (most : ℕ) (vs ws : List (Worker D)) → most ≤ 4294967295 → AllByRecursion (Waits t accounts) vs → length ws ≡ length vs
    → ((k : ℕ) (d : Worker D) → k < length vs → Worked t s accounts most (slice_index_or vs k d) (slice_index_or ws k d)) → Toured t s accounts most vs ws
all_toured t s accounts most vs ws few wait count worked = toured t s accounts most vs ws few wait (beside_places (Worked t s accounts most) vs ws count worked)

same_tours : {D : Type 0} (t : DoorMembers D) (s : Service) (most : ℕ) (ds doors es back : List D) (tours : List Tour) → ds ≡ doors → back ≡ es → AreTours t s most ds es tours → AreTours t s most doors back tours
same_tours t s most ds doors es back tours before after are = subst (λ l. AreTours t s most doors l tours) (sym after) (subst (λ l. AreTours t s most l es tours) before are)

pub serves : {D : Type 0} (t : DoorMembers D) (s : Service) (accounts : AccountsView) (most : ℕ) (before mid now : PassesView) (ps qs : List PassesView) (doors back : List D) (vs ws : List (Worker D)) (done : WorkDone)
    → SplitsTo before ps mid → passes_of vs ≡ ps → doors_of vs ≡ doors → Toured t s accounts most vs ws → back ≡ doors_of ws → qs ≡ passes_of ws → JoinsAll mid qs now → Belongs now accounts
    → done.connections ≡ connections_in ws → done.exchanges ≡ answers_in ws → done.faults ≡ faults_in ws → Serves t s most before doors now done back
serves t s accounts most before mid now ps qs doors back vs ws done so with_passes with_doors all after left joins belong connections exchanges faults = record {
  tours = all.tours;
  are_tours = same_tours t s most (doors_of vs) doors (doors_of ws) back all.tours with_doors after all.are_tours;
  joined = join_tours accounts before now all.tours belong
      (all_returned accounts before mid now ps (passes_of ws) all.tours so (subst (λ l. Went accounts l (passes_of ws) all.tours) with_passes all.went) (subst (λ l. JoinsAll mid l now) left joins));
  connections = connections ∙ all.connections;
  exchanges = exchanges ∙ all.exchanges;
  faults = faults ∙ all.faults;
}

-- ---- where no door failed

none_of_both : (a b : ℕ) → a ≡ 1 → a + b ≡ 0 → ⊥
none_of_both a b one none = omega (arith, one, none)

pub served_whole : {D : Type 0} (t : DoorMembers D) (s : Service) (most : ℕ) (doors back : List D) (tours : List Tour) → AreTours t s most doors back tours → AllByRecursion (λ d. most ≤ t.to_come d) doors → faults_of tours ≡ 0
    → connections_of tours ≡ length doors * most
unfolding AreTours connections_of faults_of
served_whole t s most [] [] [] are enough none = omega arith
served_whole t s most [] [] (tour ∷ tours) are enough none = absurd are
served_whole t s most [] (e ∷ back) tours are enough none = absurd are
served_whole t s most (d ∷ doors) [] tours are enough none = absurd are
served_whole t s most (d ∷ doors) (e ∷ back) [] are enough none = absurd are
served_whole t s most (d ∷ doors) (e ∷ back) (tour ∷ tours) are enough none =
    let rest = served_whole t s most doors back tours are.1 enough.1 (omega (arith, none)) in
    elim are.0.ends [
      | inl end ↦ omega (arith, end.2, enough.0, rest)
      | inr end ↦ absurd (none_of_both (one_if tour.failed) (faults_of tours) (ap one_if end.0) none)
    ]

-- What came of doors that were started, once they are stopped and the accounts are closed.
use Rattle.std.proofs.Common.{◌≡◌, ℕ, ◌<◌, List, ◌++◌, Option, Some, length, map, sym, ap, ◌∙◌, subst, slice_index_or}
use Rattle.std.proofs.lemmas.List.{length-map}
use Rattle.account_shared.specs.Views.{PassesView, AccountsView, ClosesTo, client_at, account_seen}
use Rattle.doors.specs.Starts.{DoorMembers, IsNew, Asked, Stopped, connections_of, stopped_by}
use Rattle.gateway_workers.specs.Decisions.{Service}
use Rattle.gateway_workers.specs.Workers.{Serves}
use Rattle.gateway_workers.proofs.Lists.{at_place, each_place}
use Rattle.gateway_serving.specs.declared.asked.Serving.{Serving}
use Rattle.gateway_serving.specs.declared.ending.ServeEnd.{ServeEnd}
use Rattle.gateway_serving.specs.Telling.{DoorsTold, asked_of, StartAndStop}
use Rattle.gateway_serving.specs.StoppedTours.{IsUnused}
use Rattle.gateway_serving.specs.Ends.{EndsServing, WasUnserved}
use Rattle.gateway_serving.proofs.DoorsBack.{have_toured, as_many, are_unused}
use Rattle.gateway_serving.proofs.ClientAccounts.{HasRun, accounts_after}

-- all are new, by place
abbrev pub AreNew : {D : Type 0} → DoorMembers D → ℕ → List D → Type 0
AreNew {D} t connections doors = (k : ℕ) (d : D) → k < length doors → IsNew t connections (slice_index_or doors k d)

pub ends_serving : {D : Type 0} (t : DoorMembers D) (s : Service) (accounts : AccountsView) (workers connections : ℕ) (before now : PassesView) (doors back : List D) (end : ServeEnd) → length doors ≡ workers → AreNew t connections doors
    → (served : Serves t s connections before doors now end.done back) → HasRun s.rules accounts served.tours before now → end.totals.clients.items.items ≡ s.rules.clients → end.totals.accounts ≡ map account_seen now.clients
    → ((k : ℕ) → k < length now.clients → ClosesTo (client_at now k) (account_seen (client_at now k))) → EndsServing s workers connections (map (stopped_by t connections) back) end
ends_serving t s accounts workers connections before now doors back end count new served run clients told closed = record {
  tours = served.tours;
  each = have_toured t s connections doors back served.tours (each_place (IsNew t connections) doors new) served.are_tours;
  count = (as_many t s connections doors back served.tours served.are_tours).1 ∙ count;
  connections_are = served.connections;
  exchanges = served.exchanges;
  faults = served.faults;
  clients = clients;
  accounts = accounts_after s.rules accounts served.tours before now end.totals.accounts run told closed;
}

pub start_and_stop : {D : Type 0} (t : DoorMembers D) (serving : Serving) (before now : DoorsTold) (back : List D) → before.asked ≡ Some (asked_of serving) → now.asked ≡ before.asked → now.running ≡ 0
    → now.stopped ≡ before.stopped ++ map (stopped_by t (connections_of before.asked)) back → StartAndStop serving before now (map (stopped_by t serving.connections) back)
start_and_stop t serving before now back asked same idle grown = record {
  asked = same ∙ asked;
  idle = idle;
  grown = grown ∙ ap (λ (o : Option Asked). before.stopped ++ map (stopped_by t (connections_of o)) back) asked;
}

pub was_unserved : {D : Type 0} (t : DoorMembers D) (serving : Serving) (before now : DoorsTold) (doors back : List D) → length doors ≡ serving.workers → AreNew t serving.connections doors → back ≡ doors
    → StartAndStop serving before now (map (stopped_by t serving.connections) back) → WasUnserved serving before now
was_unserved t serving before now doors back count new same stops = (
  map (stopped_by t serving.connections) back,
  stops,
  length-map back (stopped_by t serving.connections) ∙ (ap length same ∙ count),
  subst (λ (l : List _). (k : ℕ) (d : Stopped) → k < length (map (stopped_by t serving.connections) l) → IsUnused (slice_index_or (map (stopped_by t serving.connections) l) k d)) (sym same)
      (at_place IsUnused (map (stopped_by t serving.connections) doors) (are_unused t serving.connections doors (each_place (IsNew t serving.connections) doors new))),
)

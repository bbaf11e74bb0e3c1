use Rattle.std.proofs.Common.{◌<◌, ◌∙◌, ℕ, List, length, slice_index_or, sym, ap, subst}
use Rattle.std.specs.List.{AllByRecursion}
use Rattle.account_shared.specs.Views.{PassesView, Belongs, IsIdle}
use Rattle.gateway_connections.specs.Exchanges.{service_of}
use Rattle.gateway_workers.specs.Workers.{IsCounted, Waits, connections_in, answers_in, faults_in}
use Rattle.gateway_workers.proofs.Lists.{at_place, each_place}
use Rattle.gateway_workers.proofs.Splits.{splits_name, splits_fresh}
use Rattle.gateway_workers.proofs.Returns.{gives_back_at_once, gives_back_still}
use Rattle.gateway_workers.proofs.AllTours.{waiting, all_toured, idle_of_fresh, serves}
use Rattle.gateway_workers.proofs.serving.serve_workers.Goals as goal

pub returns-in-Err-clause-memory : goal.returns-in-Err-clause-memory
returns-in-Err-clause-memory g c = gives_back_at_once c.args.gate.now.accounts c.args.doors.items c.args.passes.now c.requires.belong

pub returns-in-Err-with_capacity-clause-memory : goal.returns-in-Err-with_capacity-clause-memory
returns-in-Err-with_capacity-clause-memory g c = gives_back_at_once c.args.gate.now.accounts c.args.doors.items c.args.passes.now c.requires.belong

pub join_all-requires-clause-first : goal.join_all-requires-clause-first
join_all-requires-clause-first g c = splits_name c.args.passes.now c.split_all.new.passes c.split_all.new.split.items c.split_all.ensures.splits ∙ c.requires.first

pub join_all-requires-clause-idle : goal.join_all-requires-clause-idle
join_all-requires-clause-idle g c =
    at_place IsIdle c.split_all.new.split.items (idle_of_fresh c.split_all.new.split.items (splits_fresh c.args.passes.now c.split_all.new.passes c.split_all.new.split.items c.split_all.ensures.splits))

pub returns-then-is_err-clause-memory : goal.returns-then-is_err-clause-memory
returns-then-is_err-clause-memory g c =
    gives_back_still c.args.gate.now.accounts c.args.doors.items c.args.passes.now c.split_all.new.passes c.join_all.new.passes c.split_all.new.split.items c.split_all.ensures.splits
    (each_place (λ p. Belongs p c.args.gate.now.accounts) c.split_all.new.split.items c.split_all.ensures.theirs) c.join_all.ensures.joins c.join_all.ensures.belong

pub run_all-requires-clause-waits : goal.run_all-requires-clause-waits
run_all-requires-clause-waits g c κs within =
    at_place (Waits _ c.args.gate.now.accounts) c.pair.new.workers.items
    (waiting _ c.args.gate.now.accounts c.args.passes.now c.split_all.new.passes c.split_all.new.split.items c.args.doors.items c.pair.new.workers.items c.split_all.ensures.splits c.split_all.ensures.theirs
    c.pair.ensures.passes c.pair.ensures.doors c.pair.ensures.new c.requires.free)

pub added_up-done-requires-clause-counted : goal.added_up-done-requires-clause-counted
added_up-done-requires-clause-counted g c =
    let wait = waiting _ c.args.gate.now.accounts c.args.passes.now c.split_all.new.passes c.split_all.new.split.items c.args.doors.items c.pair.new.workers.items c.split_all.ensures.splits c.split_all.ensures.theirs
    c.pair.ensures.passes c.pair.ensures.doors c.pair.ensures.new c.requires.free in
    let all = all_toured _ (service_of c.args.gate.now) c.args.gate.now.accounts c.args.connections c.pair.new.workers.items c.run_all.new.workers.items c.requires.most wait c.run_all.ensures.count c.run_all.ensures.worked in
    subst (λ (l : List _). (k : ℕ) (d : _) → k < length l → IsCounted (slice_index_or l k d)) (sym c.as_slice.ensures.value) (at_place IsCounted c.run_all.new.workers.items all.counted)

pub join_all-requires-2-clause-first : goal.join_all-requires-2-clause-first
join_all-requires-2-clause-first g c = splits_name c.args.passes.now c.split_all.new.passes c.split_all.new.split.items c.split_all.ensures.splits ∙ c.requires.first

pub join_all-requires-2-clause-theirs : goal.join_all-requires-2-clause-theirs
join_all-requires-2-clause-theirs g c =
    let P : PassesView → Type 0 = λ p. Belongs p c.args.gate.now.accounts in
    let wait = waiting _ c.args.gate.now.accounts c.args.passes.now c.split_all.new.passes c.split_all.new.split.items c.args.doors.items c.pair.new.workers.items c.split_all.ensures.splits c.split_all.ensures.theirs
    c.pair.ensures.passes c.pair.ensures.doors c.pair.ensures.new c.requires.free in
    let all = all_toured _ (service_of c.args.gate.now) c.args.gate.now.accounts c.args.connections c.pair.new.workers.items c.run_all.new.workers.items c.requires.most wait c.run_all.ensures.count c.run_all.ensures.worked in
    at_place P c.part.new.split.items (subst (λ (l : List PassesView). AllByRecursion P l) (sym c.part.ensures.passes) all.belongs)

pub join_all-requires-2-clause-idle : goal.join_all-requires-2-clause-idle
join_all-requires-2-clause-idle g c =
    let wait = waiting _ c.args.gate.now.accounts c.args.passes.now c.split_all.new.passes c.split_all.new.split.items c.args.doors.items c.pair.new.workers.items c.split_all.ensures.splits c.split_all.ensures.theirs
    c.pair.ensures.passes c.pair.ensures.doors c.pair.ensures.new c.requires.free in
    let all = all_toured _ (service_of c.args.gate.now) c.args.gate.now.accounts c.args.connections c.pair.new.workers.items c.run_all.new.workers.items c.requires.most wait c.run_all.ensures.count c.run_all.ensures.worked in
    at_place IsIdle c.part.new.split.items (subst (λ (l : List PassesView). AllByRecursion IsIdle l) (sym c.part.ensures.passes) all.idle)

pub returns-clause-served : goal.returns-clause-served
returns-clause-served g c =
    let wait = waiting _ c.args.gate.now.accounts c.args.passes.now c.split_all.new.passes c.split_all.new.split.items c.args.doors.items c.pair.new.workers.items c.split_all.ensures.splits c.split_all.ensures.theirs
    c.pair.ensures.passes c.pair.ensures.doors c.pair.ensures.new c.requires.free in
    let all = all_toured _ (service_of c.args.gate.now) c.args.gate.now.accounts c.args.connections c.pair.new.workers.items c.run_all.new.workers.items c.requires.most wait c.run_all.ensures.count c.run_all.ensures.worked in
    serves _ (service_of c.args.gate.now) c.args.gate.now.accounts c.args.connections c.args.passes.now c.split_all.new.passes c.join_all-2.new.passes c.split_all.new.split.items c.part.new.split.items
    c.args.doors.items c.part.new.doors.items c.pair.new.workers.items c.run_all.new.workers.items c.added_up-done.result c.split_all.ensures.splits c.pair.ensures.passes c.pair.ensures.doors all
    c.part.ensures.doors c.part.ensures.passes c.join_all-2.ensures.joins c.join_all-2.ensures.belong
    (c.added_up-done.ensures.connections ∙ ap connections_in c.as_slice.ensures.value) (c.added_up-done.ensures.exchanges ∙ ap answers_in c.as_slice.ensures.value) (c.added_up-done.ensures.faults ∙ ap faults_in c.as_slice.ensures.value)

use Rattle.std.proofs.Common.{◌∙◌, length, ap, inr}
use Rattle.account_journal.specs.Recovery.{IsPartlyRecovered}
use Rattle.account_journal.proofs.Recovered.{since_sync}
use Rattle.account_journal.proofs.journal.Journal.open.Goals as goal

pub returns-in-Ok-open_synced-clause-any_moment : goal.returns-in-Ok-open_synced-clause-any_moment
returns-in-Ok-open_synced-clause-any_moment g c b told =
    since_sync g.D.Disk.reads g.D.Disk.image g.D.Disk.moment g.D.Disk.image_since c.args.disk c.sync.new.self c.in-Ok-open_synced.journal.disk b (IsPartlyRecovered b)
    (λ x left. g.met.D.Disk.since_now c.args.disk x left) c.sync.ensures.time c.sync.ensures.images (c.in-Ok.ensures.same ∙ told) (c.in-Ok.ensures.durable b told)
    (c.in-Ok-open_synced.ensures.any_moment b (c.in-Ok.ensures.same ∙ told))

pub returns-in-Err-open_synced-clause-any_moment_err : goal.returns-in-Err-open_synced-clause-any_moment_err
returns-in-Err-open_synced-clause-any_moment_err g c b told =
    inr (since_sync g.D.Disk.reads g.D.Disk.image g.D.Disk.moment g.D.Disk.image_since c.args.disk c.sync.new.self c.in-Err-open_synced.refused.0 b (IsPartlyRecovered b)
    (λ x left. g.met.D.Disk.since_now c.args.disk x left) c.sync.ensures.time c.sync.ensures.images (c.in-Ok.ensures.same ∙ told) (c.in-Ok.ensures.durable b told)
    (c.in-Err-open_synced.ensures.any_moment_err b (c.in-Ok.ensures.same ∙ told)))

pub returns-in-Ok-open_synced-clause-rest : goal.returns-in-Ok-open_synced-clause-rest
returns-in-Ok-open_synced-clause-rest g c = c.in-Ok-open_synced.ensures.closed.kept.rest

pub returns-in-Ok-open_synced-clause-none : goal.returns-in-Ok-open_synced-clause-none
returns-in-Ok-open_synced-clause-none g c = c.in-Ok-open_synced.ensures.closed.stands.counted ∙ ap length c.in-Ok-open_synced.ensures.closed.none

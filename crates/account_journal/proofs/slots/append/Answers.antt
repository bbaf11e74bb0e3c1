use Rattle.std.proofs.Common.{◌≤◌, ◌+◌, ◌*◌, ◌++◌, [], ◌∷◌, List, ℕ, length, sym, subst, ap, ◌∙◌}
use Rattle.journal_disk.specs.Images.{written_at, written_where_told}
use Rattle.journal_disk.proofs.Moments.{weaker, then_on, put_told}
use Rattle.account_journal.proofs.Crash.{rest_inside, staged, first_crash, second_inside, second_crash, now_rests, now_stands_for}
use Rattle.account_journal.proofs.slots.append.Goals as goal

pub stage-requires-clause-inside : goal.stage-requires-clause-inside
stage-requires-clause-inside g c b told = rest_inside c.args.used b c.args.body.now (c.requires.rest b told) c.told-body

pub returns-in_err-stage-clause-any_moment : goal.returns-in_err-stage-clause-any_moment
returns-in_err-stage-clause-any_moment g c b told only =
    weaker g.D.Disk.moment g.D.Disk.image_since _ _ _ _ (first_crash c.args.used b c.args.body.now (c.requires.rest b told) c.told-body _) (c.stage.ensures.any_moment b only)

pub open_gate-requires-clause-inside : goal.open_gate-requires-clause-inside
open_gate-requires-clause-inside g c new told2 =
    let was = put_told (64 * c.args.used + 1) (c.args.body.now ++ 0 ∷ []) (g.D.Disk.reads c.args.disk.now) new (sym c.in_ok-stage.ensures.written ∙ told2) in
    let r = c.requires.rest was.0 was.1 in
    subst (λ (f : List ℕ). 64 * c.args.used ≤ length f) was.2 (second_inside c.args.used was.0 c.args.body.now r c.told-body)

pub returns-clause-rest : goal.returns-clause-rest
returns-clause-rest g c b told =
    let r = c.requires.rest b told in
    let mid = staged c.args.used b c.args.body.now r c.told-body in
    let written = c.in_ok-stage.ensures.written ∙ ap (written_where_told (64 * c.args.used + 1) (c.args.body.now ++ 0 ∷ [])) told in
    record {
      file = written_at (64 * c.args.used) (1 ∷ []) mid;
      told = c.in_ok-open_gate.ensures.written ∙ ap (written_where_told (64 * c.args.used) (1 ∷ [])) written;
      rest = now_rests c.args.used b c.args.body.now r c.told-body;
      same = now_stands_for c.args.used b c.args.body.now r c.told-body;
      durable = c.in_ok-open_gate.ensures.durable mid written;
    }

pub returns-in_err-open_gate-clause-any_moment : goal.returns-in_err-open_gate-clause-any_moment
returns-in_err-open_gate-clause-any_moment g c b told only =
    let r = c.requires.rest b told in
    let first = weaker g.D.Disk.moment g.D.Disk.image_since _ _ _ _ (first_crash c.args.used b c.args.body.now r c.told-body _) (c.stage.ensures.any_moment b only) in
    let second = weaker g.D.Disk.moment g.D.Disk.image_since _ _ _ _ (second_crash c.args.used b c.args.body.now r c.told-body)
    (c.open_gate.ensures.any_moment (staged c.args.used b c.args.body.now r c.told-body) (c.in_ok-stage.ensures.durable b told)) in
    then_on g.D.Disk.moment g.D.Disk.image_since _ _ _ _ first second

pub returns-clause-any_moment : goal.returns-clause-any_moment
returns-clause-any_moment g c b told only =
    let r = c.requires.rest b told in
    let first = weaker g.D.Disk.moment g.D.Disk.image_since _ _ _ _ (first_crash c.args.used b c.args.body.now r c.told-body _) (c.stage.ensures.any_moment b only) in
    let second = weaker g.D.Disk.moment g.D.Disk.image_since _ _ _ _ (second_crash c.args.used b c.args.body.now r c.told-body)
    (c.open_gate.ensures.any_moment (staged c.args.used b c.args.body.now r c.told-body) (c.in_ok-stage.ensures.durable b told)) in
    then_on g.D.Disk.moment g.D.Disk.image_since _ _ _ _ first second

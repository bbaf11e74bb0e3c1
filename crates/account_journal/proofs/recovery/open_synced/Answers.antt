use Rattle.std.proofs.Common.{◌≡◌, ◌∙◌, [], length, map, refl, sym, ap, subst, rules}
use Rattle.account_journal.specs.Recovery.{IsReady, IsPartlyRecovered}
use Rattle.journal_disk.proofs.Moments.{weaker, then_on}
use Rattle.account_journal.proofs.Longer.{told_before}
use Rattle.account_journal.proofs.Recovered.{recovered_is, on_the_way, at_first, prepared_ready}
use Rattle.account_journal.proofs.recovery.open_synced.Goals as goal

pub returns-clause-recovered : goal.returns-clause-recovered
returns-clause-recovered g c b told =
    let p = c.in-Ok.ensures.prepared in
    let t = p.told b told in
    let is = recovered_is b p.list c.in-Ok.reading.used c.deref-2.result.now t.0 t.1 (p.lists.leaves ∙ ap (map _) (sym c.deref-2.ensures.value)) in
    let opened : length c.in-Ok.reading.opens.items ≡ c.len.result = search rules in
    let ready = prepared_ready g.D.Disk.reads g.D.Disk.image _ _ _ c.in-Ok.reading _ c.deref-2.result.now p c.deref.ensures.value refl refl opened (sym c.deref-2.ensures.value) in
    let all = subst (IsReady g.D.Disk.reads g.D.Disk.image c.in-Ok-settle_all.journal []) is (c.in-Ok-settle_all.ensures.all p.list ready) in
    record { stands = all.stands; kept = all.kept; none = all.leaves }

pub returns-clause-any_moment : goal.returns-clause-any_moment
returns-clause-any_moment g c b told =
    let p = c.in-Ok.ensures.prepared in
    let t = p.told b told in
    let now = told_before _ _ b (sym c.prepare.ensures.tells) told in
    let opened : length c.in-Ok.reading.opens.items ≡ c.len.result = search rules in
    let ready = prepared_ready g.D.Disk.reads g.D.Disk.image _ _ _ c.in-Ok.reading _ c.deref-2.result.now p c.deref.ensures.value refl refl opened (sym c.deref-2.ensures.value) in
    then_on g.D.Disk.moment g.D.Disk.image_since _ _ _ (IsPartlyRecovered b)
    (weaker g.D.Disk.moment g.D.Disk.image_since _ _ _ (IsPartlyRecovered b) (λ x. at_first b x) (c.prepare.ensures.any_moment b told))
    (weaker g.D.Disk.moment g.D.Disk.image_since _ _ _ (IsPartlyRecovered b) (λ x. on_the_way b p.list c.in-Ok.reading.used c.deref-2.result.now t.0 t.1 (p.lists.leaves ∙ ap (map _) (sym c.deref-2.ensures.value)) x)
    (c.in-Ok-settle_all.ensures.any_moment p.list now ready))

pub returns-in-Err-settle_all-clause-any_moment_err : goal.returns-in-Err-settle_all-clause-any_moment_err
returns-in-Err-settle_all-clause-any_moment_err g c b told =
    let p = c.in-Ok.ensures.prepared in
    let t = p.told b told in
    let now = told_before _ _ b (sym c.prepare.ensures.tells) told in
    let opened : length c.in-Ok.reading.opens.items ≡ c.len.result = search rules in
    let ready = prepared_ready g.D.Disk.reads g.D.Disk.image _ _ _ c.in-Ok.reading _ c.deref-2.result.now p c.deref.ensures.value refl refl opened (sym c.deref-2.ensures.value) in
    then_on g.D.Disk.moment g.D.Disk.image_since _ _ _ (IsPartlyRecovered b)
    (weaker g.D.Disk.moment g.D.Disk.image_since _ _ _ (IsPartlyRecovered b) (λ x. at_first b x) (c.prepare.ensures.any_moment b told))
    (weaker g.D.Disk.moment g.D.Disk.image_since _ _ _ (IsPartlyRecovered b) (λ x. on_the_way b p.list c.in-Ok.reading.used c.deref-2.result.now t.0 t.1 (p.lists.leaves ∙ ap (map _) (sym c.deref-2.ensures.value)) x)
    (c.in-Err-settle_all.ensures.any_moment_err p.list now ready))

use Rattle.std.proofs.Common.{◌≡◌, ◌-◌, ◌+◌, ◌<◌, length, refl, ap, arith}
use Rattle.collected_fields.proofs.GrowingLaws.{grows_same, grows_again}
use Rattle.collected_fields.proofs.collector.Collector.note.Goals as goal

pub returns-in_err-due : goal.returns-in_err-due
returns-in_err-due c = grows_same c.args.self.now _ refl refl refl (λ r. r)

pub returns-then-not-due : goal.returns-then-not-due
returns-then-not-due c = grows_same c.args.self.now _ refl refl refl (λ r. r)

pub returns : goal.returns
returns c =
    let long : length c.as_slice.result.now ≡ length c.args.self.now.joins.lists.items = ap length c.as_slice.ensures.value in
    let left : c.saturating_sub.result ≡ c.args.number - c.args.self.now.joins.count = c.saturating_sub.ensures in
    let there : c.args.number < c.args.self.now.joins.count + length c.args.self.now.joins.lists.items = omega (arith, long, left) in
    grows_again c.args.self.now _ c.find_apart.new.self (grows_same c.args.self.now (record { tables = c.args.self.now.tables; joins = c.args.self.now.joins; kept = c.args.self.now.kept; walk = c.args.self.now.walk; met = c.is_due.new.self; reaches = c.args.self.now.reaches }) refl refl refl (λ r. r)) (c.find_apart.ensures there)

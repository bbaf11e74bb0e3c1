use Rattle.std.proofs.lemmas.Result.{IfOk-weaker}
use Rattle.collected_fields.proofs.GrowingLaws.{grows_again}
use Rattle.collected_fields.proofs.KindLaws.{kind_gives}
use Rattle.collected_fields.proofs.collector.Collector.collect.Goals as goal

pub returns-clause-grows : goal.returns-clause-grows
returns-clause-grows c = grows_again c.args.self.now c.kind_of.new.self c.collect_kind.new.self c.kind_of.ensures.grows c.collect_kind.ensures.grows

pub returns-clause-gives : goal.returns-clause-gives
returns-clause-gives c = IfOk-weaker c.collect_kind.result _ _ (λ groups gives. kind_gives c.args.self.now c.kind_of.new.self c.collect_kind.new.self c.args.of.number c.in_ok-kind.kind.number c.args.numbers.now groups.items c.kind_of.ensures.tables c.kind_of.ensures.joins c.kind_of.ensures.grows c.in_ok-kind.ensures.kind gives) c.collect_kind.ensures.gives

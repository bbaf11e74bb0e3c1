use Rattle.std.proofs.Common.{refl}
use Rattle.std.proofs.lemmas.Result.{IfOk-weaker}
use Rattle.collected_fields.proofs.CollectLaws.{of_ready}
use Rattle.collected_fields.proofs.GrowingLaws.{grows_same}
use Rattle.collected_fields.proofs.collector.Collector.kind_of.Goals as goal

pub returns-clause-grows : goal.returns-clause-grows
returns-clause-grows c = grows_same c.args.self.now _ refl refl refl (λ right. record { sets = right.sets; lists = right.lists; kinds = c.kind_of.ensures.still right.kinds })

pub returns-clause-kind : goal.returns-clause-kind
returns-clause-kind c = IfOk-weaker c.kind_of.result _ _ (λ kind same ready. same (of_ready c.args.self.now ready).reached.kinds) c.kind_of.ensures.kind

use Rattle.std.proofs.Common.{refl, map}
use Rattle.schema_model.specs.Numbers.{type_number}
use Rattle.collected_fields.proofs.CollectLaws.{leaves_out}
use Rattle.collected_fields.proofs.GrowingLaws.{grows_itself, grows_same}
use Rattle.collected_fields.proofs.collector.Collector.types_with_fields.Goals as goal

pub returns-then-types-lt-MANY-clause-grows : goal.returns-then-types-lt-MANY-clause-grows
returns-then-types-lt-MANY-clause-grows c = grows_itself c.args.self.now

pub returns-in_err-reach-clause-grows : goal.returns-in_err-reach-clause-grows
returns-in_err-reach-clause-grows c = grows_same c.args.self.now _ refl refl refl c.reach_of.ensures.still

pub returns-then-is_every-clause-grows : goal.returns-then-is_every-clause-grows
returns-then-is_every-clause-grows c = grows_same c.args.self.now _ refl refl refl c.reach_of.ensures.still

pub returns-in_err-left-clause-grows : goal.returns-in_err-left-clause-grows
returns-in_err-left-clause-grows c = grows_same c.args.self.now _ refl refl refl c.reach_of.ensures.still

pub returns-clause-grows : goal.returns-clause-grows
returns-clause-grows c = grows_same c.args.self.now _ refl refl refl c.reach_of.ensures.still

pub returns-clause-left : goal.returns-clause-left
returns-clause-left c = leaves_out c.args.self.now c.args.numbers.now (map type_number c.args.types.now) (map type_number c.in_ok-left.left.items) c.in_ok-reach.reach c.in_ok-left.ensures c.in_ok-reach.ensures.reach

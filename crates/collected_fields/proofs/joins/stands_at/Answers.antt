use Rattle.std.proofs.Common.{length, refl}
use Rattle.std.proofs.lemmas.Bool.{eqb-true}
use Rattle.std.proofs.lemmas.Option.{slice_get_read}
use Rattle.collected_fields.proofs.JoinLaws.{held_at}
use Rattle.collected_fields.proofs.joins.stands_at.Goals as goal

pub returns-in-Some : goal.returns-in-Some
returns-in-Some c = λ is. let h = c.in-Some.ensures.lookup in held_at c.args.list.now c.args.at c.args.set c.in-Some.other.now (slice_get_read c.args.list.now (length c.args.list.now) c.args.at c.in-Some.other.now refl h.3.0 h.1) (eqb-true c.in-Some.other.now c.args.set is)

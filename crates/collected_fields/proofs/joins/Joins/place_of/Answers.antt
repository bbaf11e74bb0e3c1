use Rattle.std.proofs.Common.{sym, ◌∙◌}
use Rattle.std.proofs.lemmas.Slice.Eq.{bytes_eq-Decides}
use Rattle.collected_fields.proofs.JoinLaws.{list_there}
use Rattle.collected_fields.proofs.joins.Joins.place_of.Goals as goal

pub returns-then-eq : goal.returns-then-eq
returns-then-eq c = let h = c.in-Some-get.ensures.lookup in let same = (bytes_eq-Decides c.as_slice.result.now c.args.list.now).0 (sym c.eq.ensures ∙ c.if-eq.true) in list_there c.args.self.now c.deref.result.now c.in-Some.place c.in-Some-get.other.now c.args.list.now c.deref.ensures.value h.3.0 h.1 (sym c.as_slice.ensures.value ∙ same)

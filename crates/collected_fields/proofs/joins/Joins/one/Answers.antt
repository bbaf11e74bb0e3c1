use Rattle.std.proofs.Common.{ℕ, Vec, ap}
use Rattle.std.specs.declared.alloc.Global.{Global}
use Rattle.std.proofs.lemmas.Result.{IfOk-weaker}
use Rattle.collected_fields.proofs.JoinLaws.{same_more, same_flat}
use Rattle.collected_fields.proofs.FinishLaws.{one_alone, list_stands}
use Rattle.collected_fields.proofs.joins.Joins.one.Goals as goal

pub returns-then-numbers-eq1-clause-one : goal.returns-then-numbers-eq1-clause-one
returns-then-numbers-eq1-clause-one c = one_alone c.args.self.now c.args.numbers.now _ c.if-numbers-eq1.true

pub returns-in_err-list-clause-more : goal.returns-in_err-list-clause-more
returns-in_err-list-clause-more c = same_more c.args.self.now c.flat.new.self c.flat.ensures.count (ap (λ (v : Vec (Vec ℕ Global) Global). v.items) c.flat.ensures.lists)

pub returns-clause-more : goal.returns-clause-more
returns-clause-more c = same_flat c.args.self.now c.flat.new.self c.number_of.new.self c.flat.ensures.count c.flat.ensures.lists c.number_of.ensures.more

pub returns-clause-one : goal.returns-clause-one
returns-clause-one c = IfOk-weaker c.number_of.result _ _ (λ number stands. list_stands c.args.self.now c.number_of.new.self c.args.numbers.now c.in_ok-list.list.items number c.in_ok-list.ensures.flat stands) c.number_of.ensures.number

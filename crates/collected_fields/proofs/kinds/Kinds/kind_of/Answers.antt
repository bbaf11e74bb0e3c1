use Rattle.std.proofs.Common.{◌∙◌}
use Rattle.std.proofs.lemmas.Result.{IfOk-weaker}
use Rattle.collected_fields.proofs.KindLaws.{kind_itself, knows_same, knows_found}
use Rattle.collected_fields.proofs.kinds.Kinds.kind_of.Goals as goal

pub returns-then-not-may_find-clause-still : goal.returns-then-not-may_find-clause-still
returns-then-not-may_find-clause-still c = λ knows. knows_same c.args.tables.now c.begin.new.self c.may_find.new.self c.may_find.ensures.conditions c.may_find.ensures.begun c.may_find.ensures.stand_ins (c.begin.ensures.still knows)

pub returns-in_err-take-clause-still : goal.returns-in_err-take-clause-still
returns-in_err-take-clause-still c = λ knows. knows_same c.args.tables.now c.begin.new.self c.may_find.new.self c.may_find.ensures.conditions c.may_find.ensures.begun c.may_find.ensures.stand_ins (c.begin.ensures.still knows)

pub returns-then-not-may_find-clause-kind : goal.returns-then-not-may_find-clause-kind
returns-then-not-may_find-clause-kind c = λ knows. kind_itself c.args.tables.now c.args.of.number

pub returns-clause-still : goal.returns-clause-still
returns-clause-still c = λ knows. knows_found c.args.tables.now c.may_find.new.self c.find.new.self c.args.of.number c.find.ensures.conditions c.find.ensures.begun (c.may_find.ensures.begun ∙ c.in_ok-begin.ensures.begun) c.find.ensures.keeps
    (knows_same c.args.tables.now c.begin.new.self c.may_find.new.self c.may_find.ensures.conditions c.may_find.ensures.begun c.may_find.ensures.stand_ins (c.begin.ensures.still knows))

pub returns-clause-kind : goal.returns-clause-kind
returns-clause-kind c = IfOk-weaker c.find.result _ _ (λ kind alike knows. (knows_same c.args.tables.now c.begin.new.self c.may_find.new.self c.may_find.ensures.conditions c.may_find.ensures.begun c.may_find.ensures.stand_ins (c.begin.ensures.still knows)).covers
    (c.may_find.ensures.begun ∙ c.in_ok-begin.ensures.begun) c.args.of.number kind.number alike) c.find.ensures.kind

use Rattle.std.proofs.Common.{All, sym, ap, ◌∙◌, subst}
use Rattle.std.proofs.lemmas.Slice.Eq.{bytes_eq-Decides}
use Rattle.variable_coercion.specs.Calls.{environment}
use Rattle.distinct_selections.specs.SameVariables.{StandsIn}
use Rattle.distinct_selections.proofs.stand_ins.StandIns.other_at.Goals as goal

pub returns-then-eq : goal.returns-then-eq
returns-then-eq c = λ right. let values = environment c.args.self.now.variables.now in
    let found = c.in-Some.ensures.lookup in
    let all : All (StandsIn values) c.deref.result.now = subst (All (StandsIn values)) (sym c.deref.ensures.value) right in
    subst (StandsIn values) (sym found.1) (all c.args.at c.in-Some.one.now found.3.0) ∙ ap values ((bytes_eq-Decides c.in-Some.one.now.name.now c.args.name.now).0 (sym c.eq.ensures ∙ c.if-eq.true))

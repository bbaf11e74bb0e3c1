use Rattle.std.proofs.Common.{◌+◌, Some, map, option_map, sym, ap, ◌∙◌, subst}
use Rattle.std.proofs.lemmas.List.{take_rest}
use Rattle.std.proofs.lemmas.Result.{on_ok_weaker}
use Rattle.schema_model.specs.Numbers.{type_number}
use Rattle.collected_fields.specs.declared.steps.Step.{Step}
use Rattle.collected_fields.specs.Steps.{step_data}
use Rattle.collected_fields.specs.Reaching.{FragmentCollectsNothing, ReachesStep}
use Rattle.collected_fields.proofs.ReachingLaws.{still_missed, no_fragment, spread_reached, inline_reached, fragment_reached, fragment_on_none, next_reached, listed_reached, steps_there, none_listed}
use Rattle.collected_fields.proofs.reaching.+reach.Goals as goal

pub add_fragment-returns-in-Some-on-clause-adds : goal.add_fragment-returns-in-Some-on-clause-adds
add_fragment-returns-in-Some-on-clause-adds t c = on_ok_weaker c.add_where.result (λ adds right. fragment_reached c.args.tables.now c.args.reach.now c.add_where.new.reach c.args.number c.in-Some-on.on.number c.in-Some.entry.list
    (sym c.in-Some.ensures ∙ ap (λ on. Some (option_map type_number on, c.in-Some.entry.list)) c.in-Some-on.is) (adds right)) c.add_where.ensures.adds

pub add_fragment-returns-in-None-on-clause-adds : goal.add_fragment-returns-in-None-on-clause-adds
add_fragment-returns-in-None-on-clause-adds t c = λ right. still_missed c.args.tables.now c.args.reach.now (λ T. FragmentCollectsNothing c.args.tables.now T c.args.number)
    (fragment_on_none c.args.tables.now c.args.number c.in-Some.entry.list (sym c.in-Some.ensures ∙ ap (λ on. Some (option_map type_number on, c.in-Some.entry.list)) c.in-None-on.is))

pub add_fragment-returns-in-None-clause-adds : goal.add_fragment-returns-in-None-clause-adds
add_fragment-returns-in-None-clause-adds t c = λ right. still_missed c.args.tables.now c.args.reach.now (λ T. FragmentCollectsNothing c.args.tables.now T c.args.number)
    (λ T. no_fragment c.args.tables.now T c.args.number (sym c.in-None.ensures))

pub add_inline-returns-clause-adds : goal.add_inline-returns-clause-adds
add_inline-returns-clause-adds t c = on_ok_weaker c.join_where.result (λ joined right. inline_reached c.args.tables.now c.args.reach.now c.join_where.new.reach c.none-under.result c.add_steps.new.reach c.args.on.number c.args.count c.args.rest.now
    c.if-rest-count.false (c.in_ok-add_steps.ensures.adds right) joined) c.join_where.ensures

pub add_listed-returns-in-Some-clause-adds : goal.add_listed-returns-in-Some-clause-adds
add_listed-returns-in-Some-clause-adds t c = let h = c.in-Some.ensures.lookup in on_ok_weaker c.add_steps.result (λ adds right. listed_reached c.args.tables.now c.args.reach.now c.add_steps.new.reach c.args.set (map step_data c.as_slice.result.now)
    (steps_there c.args.tables.now c.deref.result.now c.args.set c.in-Some.list.now c.as_slice.result.now c.deref.ensures.value h.3.0 h.1 c.as_slice.ensures.value) (adds right)) c.add_steps.ensures.adds

pub add_listed-returns-in-None-clause-adds : goal.add_listed-returns-in-None-clause-adds
add_listed-returns-in-None-clause-adds t c = λ right. none_listed c.args.tables.now c.args.reach.now c.deref.result.now c.args.set c.deref.ensures.value c.in-None.ensures.lookup.3

pub add_step-returns-in_ok-add_fragment-in-Spread-clause-adds : goal.add_step-returns-in_ok-add_fragment-in-Spread-clause-adds
add_step-returns-in_ok-add_fragment-in-Spread-clause-adds t c = λ right. subst (λ (x : Step). ReachesStep c.args.tables.now c.args.reach.now c.add_fragment.new.reach (step_data x) (map step_data c.args.rest.now) 0) (sym c.in-Spread.is)
    (spread_reached c.args.tables.now c.args.reach.now c.add_fragment.new.reach c.in-Spread.number (map step_data c.args.rest.now) (c.in_ok-add_fragment-in-Spread.ensures.adds right))

pub add_steps-steps-preserved : goal.add_steps-steps-preserved
add_steps-steps-preserved t c = (
  λ right. c.in_ok-passed.ensures.still (c.steps.invariant.0 right),
  λ right. next_reached c.args.tables.now c.args.steps.now c.steps.at c.in_ok-passed.passed c.place_behind-at.result c.index-steps-at.result _ c.args.reach.now c.steps.reach c.add_step.new.reach c.steps-test.true c.index-steps-at.is
      (take_rest c.args.steps.now (c.steps.at + 1)) c.place_behind-at.ensures.some c.place_behind-at.ensures.all (c.steps.invariant.1 right) (c.in_ok-passed.ensures.adds (c.steps.invariant.0 right)),
)

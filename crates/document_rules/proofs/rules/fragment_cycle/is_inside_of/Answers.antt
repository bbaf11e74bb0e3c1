use Rattle.std.proofs.Common.{arith, sym, ap, ◌∙◌, map}
use Rattle.std.specs.Prelude.{option_map}
use Rattle.std.proofs.lemmas.List.{length-map}
use Rattle.document_rules.specs.Views.{met_data}
use Rattle.document_rules.proofs.InsideSteps.{inside_ends, inside_here, inside_later, inside_none}
use Rattle.document_rules.proofs.rules.fragment_cycle.is_inside_of.Goals as goal

pub returns-in_default : goal.returns-in_default
returns-in_default c = inside_ends (map met_data c.args.met.now) c.loop-step._step c.loop-step.at c.args.number _ (omega (arith, c.loop-step-test.true, length-map c.args.met.now met_data)) (ap (option_map met_data) (sym c.in_default.is) ∙ c.met_there.ensures) c.loop-step.invariant

pub returns-then-number-one : goal.returns-then-number-one
returns-then-number-one c = inside_here (map met_data c.args.met.now) c.loop-step._step c.loop-step.at c.args.number _ (met_data c.in-Some.one) (omega (arith, c.loop-step-test.true, length-map c.args.met.now met_data)) (ap (option_map met_data) (sym c.in-Some.is) ∙ c.met_there.ensures) c.if-number-one.true c.loop-step.invariant

pub loop-step-preserved : goal.loop-step-preserved
loop-step-preserved c = inside_later (map met_data c.args.met.now) c.loop-step._step c.loop-step.at c.args.number _ (met_data c.in-Some.one) (omega (arith, c.loop-step-test.true, length-map c.args.met.now met_data)) (ap (option_map met_data) (sym c.in-Some.is) ∙ c.met_there.ensures) c.if-number-one.false c.loop-step.invariant

pub returns : goal.returns
returns c = inside_none (map met_data c.args.met.now) c.loop-step._step c.loop-step.at c.args.number _ (omega (arith, c.loop-step-test.false, length-map c.args.met.now met_data)) c.loop-step.invariant

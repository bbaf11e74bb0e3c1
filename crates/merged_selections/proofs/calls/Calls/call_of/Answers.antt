use Rattle.collected_fields.specs.Views.{setting_of_planning, collected_field}
use Rattle.merged_selections.proofs.KeptCalls.{alike_within, call_at}
use Rattle.merged_selections.proofs.calls.Calls.call_of.Goals as goal

pub returns-then-is_alike_at-clause-found : goal.returns-then-is_alike_at-clause-found
returns-then-is_alike_at-clause-found c = λ kept. call_at (setting_of_planning c.args.planning.now) c.args.of.number (collected_field c.args.field.now) c.forget_where_refused.new.self.made.items c.forget_where_refused.new.self.last (c.forget_where_refused.ensures (setting_of_planning c.args.planning.now) kept).0 (c.is_alike_at.ensures c.if-is_alike_at.true)

pub returns-in-Some-clause-within : goal.returns-in-Some-clause-within
returns-in-Some-clause-within c = alike_within c.forget_where_refused.new.self.made.items c.in-Some.at c.args.of.number (collected_field c.args.field.now) c.in-Some.ensures

pub returns-in-Some-clause-found : goal.returns-in-Some-clause-found
returns-in-Some-clause-found c = λ kept. call_at (setting_of_planning c.args.planning.now) c.args.of.number (collected_field c.args.field.now) c.forget_where_refused.new.self.made.items c.in-Some.at (c.forget_where_refused.ensures (setting_of_planning c.args.planning.now) kept).0 c.in-Some.ensures

pub returns-then-is_alike_at-clause-kept : goal.returns-then-is_alike_at-clause-kept
returns-then-is_alike_at-clause-kept c = λ kept. c.forget_where_refused.ensures (setting_of_planning c.args.planning.now) kept

pub returns-then-is_alike_at-clause-within : goal.returns-then-is_alike_at-clause-within
returns-then-is_alike_at-clause-within c = alike_within c.forget_where_refused.new.self.made.items c.forget_where_refused.new.self.last c.args.of.number (collected_field c.args.field.now) (c.is_alike_at.ensures c.if-is_alike_at.true)

pub returns-in-Some-clause-kept : goal.returns-in-Some-clause-kept
returns-in-Some-clause-kept c = λ kept. c.forget_where_refused.ensures (setting_of_planning c.args.planning.now) kept

pub returns-in-None-clause-kept : goal.returns-in-None-clause-kept
returns-in-None-clause-kept c = λ kept. c.make.ensures.kept (c.forget_where_refused.ensures (setting_of_planning c.args.planning.now) kept)

pub returns-in-None-clause-found : goal.returns-in-None-clause-found
returns-in-None-clause-found c = λ kept. c.make.ensures.found (c.forget_where_refused.ensures (setting_of_planning c.args.planning.now) kept)

use Rattle.collected_fields.specs.Views.{setting_of_planning, collected_field}
use Rattle.merged_selections.proofs.KeptCalls.{alike_within, call_at, alike_compares, known_compares, untold_compares}
use Rattle.merged_selections.proofs.calls.Calls.differs.Goals as goal

pub returns-then-is_alike_at-clause-compares : goal.returns-then-is_alike_at-clause-compares
returns-then-is_alike_at-clause-compares c = λ kept. alike_compares (setting_of_planning c.args.planning.now) c.args.of.number (collected_field c.args.other.now) c.args.self.now.made.items c.args.at kept.0 (c.is_alike_at.ensures c.if-is_alike_at.true)

pub are_same-requires-clause-there_too : goal.are_same-requires-clause-there_too
are_same-requires-clause-there_too c = alike_within c.args.self.now.made.items c.in-Some.place c.args.of.number (collected_field c.args.other.now) c.in-Some.ensures

pub returns-in-Ok-clause-compares : goal.returns-in-Ok-clause-compares
returns-in-Ok-clause-compares c = λ kept. known_compares (setting_of_planning c.args.planning.now) c.args.of.number (collected_field c.args.other.now) c.args.self.now.made.items c.args.at c.in-Some.place c.in-Ok.same
    (call_at (setting_of_planning c.args.planning.now) c.args.of.number (collected_field c.args.other.now) c.args.self.now.made.items c.in-Some.place kept.0 c.in-Some.ensures)
    (c.in-Ok.ensures.same kept)

pub returns-in-Err-clause-compares : goal.returns-in-Err-clause-compares
returns-in-Err-clause-compares c = λ kept. untold_compares (setting_of_planning c.args.planning.now) c.args.of.number (collected_field c.args.other.now) c.args.self.now.made.items c.args.at c.in-Err.fault (c.in-Err.ensures.same kept)

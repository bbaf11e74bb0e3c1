use Rattle.std.proofs.Common.{arith}
use Rattle.collected_fields.specs.Views.{setting_of_planning, collected_field}
use Rattle.merged_selections.proofs.KeptCalls.{put_call}
use Rattle.merged_selections.proofs.calls.Calls.make.Goals as goal

pub returns-in_err-put-in-Ok-clause-kept : goal.returns-in_err-put-in-Ok-clause-kept
returns-in_err-put-in-Ok-clause-kept c = λ kept. let before = c.make_room.ensures (setting_of_planning c.args.planning.now) kept in
    c.in_err-put-in-Ok.ensures.kept (setting_of_planning c.args.planning.now) (before.0, before.1, c.in-Ok.ensures.scaled before.2, before.3) (c.in-Ok.ensures.call before.2).1

pub returns-in_ok-put-in-Ok-clause-kept : goal.returns-in_ok-put-in-Ok-clause-kept
returns-in_ok-put-in-Ok-clause-kept c = λ kept. let before = c.make_room.ensures (setting_of_planning c.args.planning.now) kept in
    c.in_ok-put-in-Ok.ensures.kept (setting_of_planning c.args.planning.now) (before.0, before.1, c.in-Ok.ensures.scaled before.2, before.3) (c.in-Ok.ensures.call before.2).1

pub returns-in_ok-put-in-Ok-clause-found : goal.returns-in_ok-put-in-Ok-clause-found
returns-in_ok-put-in-Ok-clause-found c = λ kept. let before = c.make_room.ensures (setting_of_planning c.args.planning.now) kept in
    put_call (setting_of_planning c.args.planning.now) c.args.of.number (collected_field c.args.field.now) c.make_room.new.self.made.items c.put.new.self.made.items c.len-at.result c.in-Ok.call (let e = c.len-at.ensures in omega arith) c.in_ok-put-in-Ok.ensures.put (c.in-Ok.ensures.call before.2).0

pub returns-in-Err-clause-kept : goal.returns-in-Err-clause-kept
returns-in-Err-clause-kept c = λ kept. let before = c.make_room.ensures (setting_of_planning c.args.planning.now) kept in (before.0, before.1, c.in-Err.ensures.scaled before.2, before.3)

pub returns-in-Err-clause-found : goal.returns-in-Err-clause-found
returns-in-Err-clause-found c = λ kept. c.in-Err.ensures.call (c.make_room.ensures (setting_of_planning c.args.planning.now) kept).2

use Rattle.collected_fields.proofs.GrowingLaws.{grows_itself, grows_again}
use Rattle.collected_fields.proofs.collector.Collector.note_all.Goals as goal

pub returns-in_err-all : goal.returns-in_err-all
returns-in_err-all c = grows_itself c.args.self.now

pub loop-number-init : goal.loop-number-init
loop-number-init c = grows_itself c.args.self.now

pub loop-number-preserved : goal.loop-number-preserved
loop-number-preserved c = grows_again c.args.self.now c.loop-number.self c.note.new.self c.loop-number.invariant c.note.ensures

pub returns-in_err-note : goal.returns-in_err-note
returns-in_err-note c = grows_again c.args.self.now c.loop-number.self c.note.new.self c.loop-number.invariant c.note.ensures

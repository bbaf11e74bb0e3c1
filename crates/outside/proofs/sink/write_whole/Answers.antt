-- One more piece was written.
use Rattle.std.proofs.Common.{subst, ◌∙◌}
use Rattle.std.specs.Io.KnownBytes.{Appends}
use Rattle.std.proofs.KnownBytes.{Appends-trans}
use Rattle.outside.proofs.Growing.{take_further, within_rest}
use Rattle.outside.proofs.sink.write_whole.Goals as goal

pub loop-done-preserved : goal.loop-done-preserved
loop-done-preserved g c = record {
  within = within_rest c.loop-done.done c.in_ok-done.field-0 c.args.text.now c.in_ok-done.ensures.within c.loop-done.invariant.within;
  written = subst (Appends (g.K.Sink.written c.args.to.now) (g.K.Sink.written c.write.new.self))
      (take_further c.loop-done.done c.in_ok-done.field-0 c.args.text.now)
      (Appends-trans (g.K.Sink.written c.args.to.now) (g.K.Sink.written c.loop-done.to) (g.K.Sink.written c.write.new.self) _ _ c.loop-done.invariant.written c.in_ok-done.ensures.bytes);
  still = c.in_ok-done.ensures.still ∙ c.loop-done.invariant.still;
}

-- The text was written whole, and then a front of its line end.
use Rattle.std.specs.Prelude.{◌∷◌, []}
use Rattle.std.proofs.lemmas.Result.{on_err_weaker}
use Rattle.outside.proofs.Fronts.{front_then}
use Rattle.gateway_run.proofs.finish.write_line.Goals as goal

pub returns-clause-front : goal.returns-clause-front
returns-clause-front g c =
    on_err_weaker c.write_whole-2.result
    (front_then (g.K.Sink.written c.args.to.now) (g.K.Sink.written c.write_whole.new.to) (g.K.Sink.written c.write_whole-2.new.to) c.args.text.now (10 ∷ []) c.in_ok-write_whole.ensures.whole)
    c.write_whole-2.ensures.front

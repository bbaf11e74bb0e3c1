-- A front of `file `, or all of it and then a front of the name's line.
use Rattle.std.specs.Prelude.{◌∷◌, ◌++◌, [], codes, OnErr, Result, Ok, Err}
use Rattle.std.proofs.lemmas.Result.{on_err_weaker}
use Rattle.outside.proofs.Fronts.{front_more, front_then}
use Rattle.gateway_run.proofs.finish.write_name.Goals as goal

anyway : {T E P : Type 0} (r : Result T E) → P → OnErr r P
anyway (Ok x) p = tt
anyway (Err e) p = p

pub returns-in_err-write_whole-clause-front : goal.returns-in_err-write_whole-clause-front
returns-in_err-write_whole-clause-front g c =
    anyway c.from_residual.result
    (front_more (g.E.Sink.written c.args.to.now) (g.E.Sink.written c.write_whole.new.to) (codes "file ") (c.args.name.now ++ 10 ∷ []) c.in_err-write_whole.ensures.front)

pub returns-clause-front : goal.returns-clause-front
returns-clause-front g c =
    on_err_weaker c.write_line.result
    (front_then (g.E.Sink.written c.args.to.now) (g.E.Sink.written c.write_whole.new.to) (g.E.Sink.written c.write_line.new.to) (codes "file ") (c.args.name.now ++ 10 ∷ []) c.in_ok-write_whole.ensures.whole)
    c.write_line.ensures.front

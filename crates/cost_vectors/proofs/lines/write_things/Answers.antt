use Rattle.std.proofs.Common.{string_bytes, arith}
use Rattle.cost_vectors.proofs.Steps.{one_thing_more}
use Rattle.cost_vectors.proofs.lines.write_things.Goals as goal

pub things-preserved : goal.things-preserved
things-preserved c = one_thing_more c.things._thing (string_bytes c.args.into.now) (string_bytes c.things.into) (string_bytes c.push_str-in-things.new.self) (string_bytes c.push_str-in-things-2.new.self)
    (omega (arith, c.things.auto._thing)) c.things.invariant c.in_ok-push_str-2.ensures.bytes c.in_ok-push_str-3.ensures.bytes

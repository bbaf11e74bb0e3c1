use Rattle.std.proofs.Common.{sym, arith}
use Rattle.std.proofs.lemmas.List.{take_all, length-take}
use Rattle.collected_fields.proofs.key_hashing.start_of.Goals as goal

pub slice_bounds-result-end : goal.slice_bounds-result-end
slice_bounds-result-end c = let more = c.if-bytes-le-START.false in omega (arith, more, length-take 4096 c.args.bytes.now)

pub returns-then-bytes-le-START : goal.returns-then-bytes-le-START
returns-then-bytes-le-START c = sym (take_all 4096 c.args.bytes.now c.if-bytes-le-START.true)

-- The lesser of two lengths.
use Rattle.std.proofs.Common.{◌∙◌, ap, take}
use Rattle.http_fields.proofs.Fronts.{take_min}
use Rattle.http_front.proofs.head.front_of.Goals as goal

pub returns : goal.returns
returns c = ap (λ n. take n c.args.bytes.now) c.min.ensures ∙ take_min 16384 c.args.bytes.now

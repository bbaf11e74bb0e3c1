use Rattle.std.proofs.lemmas.Slice.Eq.{slice_eq-Decides, bytes_eq-Decides}
use Rattle.merged_selections.proofs.known.are_one_list.Goals as goal

pub returns-then-names-le-SHORT : goal.returns-then-names-le-SHORT
returns-then-names-le-SHORT c = λ same. (slice_eq-Decides bytes_eq-Decides c.args.names.now c.args.others.now c.eq.result c.eq.ensures).0 same

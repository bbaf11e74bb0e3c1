use Rattle.std.proofs.Common.{All, sym, subst}
use Rattle.std.proofs.lemmas.List.Elements.{All-push}
use Rattle.merged_selections.specs.Again.{IsKnown}
use Rattle.merged_selections.proofs.known.Known.put.Goals as goal

pub returns : goal.returns
returns c = λ k own known. subst (All (IsKnown k)) (sym c.in_ok-push.ensures.items) (All-push (IsKnown k) c.args.self.now.made.items c.args.groups known own)

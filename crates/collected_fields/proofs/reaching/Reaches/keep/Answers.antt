use Rattle.std.proofs.Common.{inl, inr, ⊎_elim, sym, ◌∙◌}
use Rattle.collected_fields.proofs.MissedTypes.{one_set}
use Rattle.collected_fields.proofs.reaching.Reaches.keep.Goals as goal

pub returns : goal.returns
returns c = λ place r h. ⊎_elim
    (λ before. inl (sym (c.loop-self.invariant.0 place) ∙ before))
    (λ is. inr (is.0, is.1 ∙ c.loop-self.invariant.1))
    (one_set c.loop-self.self.sets.items c.args.set _ place r h)

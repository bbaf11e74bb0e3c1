use Rattle.std.proofs.Common.{sym, ◌∙◌, true≢false, refl, subst}
use Rattle.std.proofs.lemmas.Slice.Eq.{bytes_eq-Decides}
use Rattle.replay_scripts.specs.Words.{BeginsAboveNought}
use Rattle.replay_scripts.proofs.Moments.{nought, no_moment, moment_some, moment_none}
use Rattle.replay_scripts.proofs.moment.moment_in.Goals as goal

pub returns-then-eq-clause-some : goal.returns-then-eq-clause-some
returns-then-eq-clause-some c = nought c.args.text.now ((bytes_eq-Decides _ _).0 (sym c.eq.ensures ∙ c.if-eq.true))

pub returns-then-begins_above_nought-clause-some :
    goal.returns-then-begins_above_nought-clause-some
returns-then-begins_above_nought-clause-some c = rw (c.ok.ensures.value) (moment_some c.args.text.now c.parse.result c.parse.ensures.value.0 (subst BeginsAboveNought c.as_bytes.ensures.value (c.if-begins_above_nought.ensures.0 refl)))

pub returns-then-begins_above_nought-clause-none :
    goal.returns-then-begins_above_nought-clause-none
returns-then-begins_above_nought-clause-none c = rw (c.ok.ensures.value) (moment_none c.args.text.now c.parse.result c.parse.ensures.value.0)

pub returns-else-begins_above_nought-clause-none :
    goal.returns-else-begins_above_nought-clause-none
returns-else-begins_above_nought-clause-none c = no_moment c.args.text.now
    (λ is. true≢false (sym ((bytes_eq-Decides _ _).1 is) ∙ (sym c.eq.ensures ∙ c.if-eq.false)))
    (λ begun. true≢false (sym (c.if-begins_above_nought.ensures.1 (subst BeginsAboveNought (sym c.as_bytes.ensures.value) begun))))

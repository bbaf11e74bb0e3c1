use Rattle.std.proofs.Common.{rules, ◌<◌, ◌∷◌, ◌++◌, [], subst, List, ℕ, length, slice_index_or, ap, ◌∙◌}
use Rattle.account_shared.specs.Views.{PassesView, Label, Belongs, IsIdle}
use Rattle.gateway_workers.proofs.Lists.{at_place, each_place, all_front}
use Rattle.gateway_workers.proofs.Splits.{is_joined, joins_one, joins_none}
use Rattle.gateway_workers.proofs.joining.join_all.Goals as goal

pub joins-preserved : goal.joins-preserved
joins-preserved g c =
    let i = c.joins.invariant in
    let last = c.in-Some.ensures.items in
    let P : PassesView → Type 0 = λ p. Belongs p c.args.gate.now.accounts in
    let theirs = each_place P (c.pop.new.self.items ++ c.in-Some.other ∷ []) (subst (λ (l : List PassesView). (k : ℕ) (d : PassesView) → k < length l → P (slice_index_or l k d)) last i.3) in
    let idle = each_place IsIdle (c.pop.new.self.items ++ c.in-Some.other ∷ []) (subst (λ (l : List PassesView). (k : ℕ) (d : PassesView) → k < length l → IsIdle (slice_index_or l k d)) last i.4) in
    let one = is_joined c.joins.passes c.in-Some.other c.join.new.passes c.args.gate.now.accounts i.1 c.join.ensures.belong c.join.ensures.made c.join.ensures.label c.join.ensures.joined in (
      (λ now rest. i.0 now (joins_one c.joins.passes c.join.new.passes c.in-Some.other now c.pop.new.self.items c.joins.split.items last one rest)),
      c.join.ensures.belong,
      ap (λ (l : Label). l.name) c.join.ensures.label ∙ i.2,
      at_place P c.pop.new.self.items (all_front P c.pop.new.self.items c.in-Some.other theirs),
      at_place IsIdle c.pop.new.self.items (all_front IsIdle c.pop.new.self.items c.in-Some.other idle),
    )

pub returns-in-None-clause-joins : goal.returns-in-None-clause-joins
returns-in-None-clause-joins g c = c.joins.invariant.0 c.joins.passes (joins_none c.joins.passes c.joins.split.items (search rules))

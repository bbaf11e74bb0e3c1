use Rattle.std.proofs.Common.{◌∷◌, [], ◌∙◌, length, arith, ap, sym, subst, refl, List}
use Rattle.std.proofs.lemmas.List.{length-append}
use Rattle.std.specs.List.{AllByRecursion}
use Rattle.account_shared.specs.Views.{PassesView, Label, Belongs}
use Rattle.gateway_workers.specs.Joins.{SplitsTo}
use Rattle.gateway_workers.proofs.Lists.{at_place, each_place, all_more}
use Rattle.gateway_workers.proofs.Splits.{splits_none, splits_more}
use Rattle.gateway_workers.proofs.joining.split_all.Goals as goal

pub splits-init : goal.splits-init
splits-init c =
    let P : PassesView → Type 0 = λ p. Belongs p c.args.gate.now.accounts in (
      splits_none c.args.passes.now c.args.split.now.items c.requires.none,
      c.requires.belong,
      at_place P c.args.split.now.items (subst (λ (l : List PassesView). AllByRecursion P l) (sym c.requires.none) tt),
      c.requires.first,
      refl,
      omega (arith, ap (length {A = PassesView}) c.requires.none),
    )

pub splits-preserved : goal.splits-preserved
splits-preserved c =
    let i = c.splits.invariant in
    let e = c.in_ok-next.ensures in
    let more = c.push_reserved.ensures.items in
    let P : PassesView → Type 0 = λ p. Belongs p c.args.gate.now.accounts in (
      subst (λ (l : List PassesView). SplitsTo c.args.passes.now l c.split.new.passes) (sym more)
          (splits_more c.args.passes.now c.splits.passes c.split.new.passes c.in_ok-next.next c.splits.split.items i.0 (record { made = e.new_label.0; clients = e.new_clients; label = e.new_label.1 })
          (record { made = e.made; clients = e.clients; label = e.label })),
      e.belong,
      at_place P c.push_reserved.new.self.items (subst (λ (l : List PassesView). AllByRecursion P l) (sym more) (all_more P c.splits.split.items c.in_ok-next.next (each_place P c.splits.split.items i.2) e.new_belong)),
      ap (λ (l : Label). l.name) e.label ∙ i.3,
      c.push_reserved.ensures.capacity ∙ i.4,
      omega (arith, ap (length {A = PassesView}) more, length-append c.splits.split.items (c.in_ok-next.next ∷ []), c.splits-test.true, c.len.ensures),
    )

use Rattle.std.proofs.Common.{List, ℕ, [], ◌∷◌, ◌++◌, ap, ◌∙◌}
use Rattle.collected_fields.proofs.JoinLaws.{adds_held, adds_new}
use Rattle.collected_fields.proofs.joins.Adding.add.Goals as goal

pub returns-then-has : goal.returns-then-has
returns-then-has c = adds_held c.args.self.now.list.items c.args.set (c.has.ensures c.if-has.true)

pub returns : goal.returns
returns c = adds_new c.args.self.now.list.items c.push.new.self.items c.args.set (c.in_ok-push.ensures.items ∙ ap (λ (xs : List ℕ). xs ++ (c.args.set ∷ [])) c.note.ensures)

use Rattle.std.proofs.Common.{◌≡◌, List, [], ℕ, ◌+◌, Vec, take, refl, ap, sym, subst, ◌∙◌}
use Rattle.std.specs.declared.alloc.Global.{Global}
use Rattle.collected_fields.specs.Lists.{AreForBefore, PutsPiece}
use Rattle.collected_fields.proofs.ListLaws.{more_itself, more_again}
use Rattle.collected_fields.proofs.PieceLaws.{none_before, one_before, cut_before, stands_as}
use Rattle.collected_fields.proofs.joins.Joins.pieces.Goals as goal
use Rattle.collected_fields.proofs.joins.Joins.pieces.Goals.{then-ends_piece+in_ok-put_piece+else-not-branch, else-ends_piece}

pub loop-set-init : goal.loop-set-init
loop-set-init c = (refl, (more_itself c.args.self.now, none_before c.args.self.now c.new-numbers.result.items c.new-piece.result.items c.new-numbers.ensures.items c.new-piece.ensures.items))

pub loop-set-preserved : goal.loop-set-preserved
loop-set-preserved c =
    let longer = one_before c.loop-set.self c.args.list.now c.loop-set.numbers.items c.loop-set.piece.items c.push.new.self.items c.loop-set.set-index _ c.loop-set-test.true c.in_ok-push.ensures.items c.loop-set.invariant.1.1 in
    elim c.if-ends_piece.branch [
      | then-ends_piece+in_ok-put_piece+else-not-branch w ↦
          let puts : PutsPiece c.loop-set.self w.put_piece.new.self c.push.new.self.items c.loop-set.numbers.items w.put_piece.new.numbers.items =
          subst (λ (v : Vec ℕ Global). PutsPiece c.loop-set.self w.put_piece.new.self v.items c.loop-set.numbers.items w.put_piece.new.numbers.items) w.replace-whole.ensures.value (w.in_ok-put_piece.ensures.put w.if-not-branch.false) in
          let cut = cut_before c.loop-set.self w.put_piece.new.self (take (c.loop-set.set-index + 1) c.args.list.now) c.loop-set.numbers.items w.put_piece.new.numbers.items c.push.new.self.items puts longer in
          let empty : w.replace-whole.new.dest.items ≡ [] = ap (λ (v : Vec ℕ Global). v.items) w.replace-whole.ensures.after ∙ w.new.ensures.items in
          stands_as c.args.self.now w.put_piece.new.self c.if-ends_piece.self (take (c.loop-set.set-index + 1) c.args.list.now) w.put_piece.new.numbers c.if-ends_piece.numbers w.replace-whole.new.dest c.if-ends_piece.piece w.self-is w.numbers-is w.piece-is (
            w.put_piece.ensures.count ∙ c.loop-set.invariant.0,
            (
              more_again c.args.self.now c.loop-set.self w.put_piece.new.self c.loop-set.invariant.1.0 w.put_piece.ensures.more,
              subst (λ (xs : List ℕ). AreForBefore w.put_piece.new.self (take (c.loop-set.set-index + 1) c.args.list.now) w.put_piece.new.numbers.items xs) (sym empty) cut,
            ),
          )
      | else-ends_piece w ↦ stands_as c.args.self.now c.loop-set.self c.if-ends_piece.self _ c.loop-set.numbers c.if-ends_piece.numbers c.push.new.self c.if-ends_piece.piece w.self-is w.numbers-is w.piece-is (c.loop-set.invariant.0, (c.loop-set.invariant.1.0, longer))
    ]

pub returns-in_err-put_piece-clause-more : goal.returns-in_err-put_piece-clause-more
returns-in_err-put_piece-clause-more c = more_again c.args.self.now c.loop-set.self c.put_piece.new.self c.loop-set.invariant.1.0 c.put_piece.ensures.more

pub returns-then-not-branch-clause-more : goal.returns-then-not-branch-clause-more
returns-then-not-branch-clause-more c = more_again c.args.self.now c.loop-set.self c.put_piece.new.self c.loop-set.invariant.1.0 c.put_piece.ensures.more

pub returns-in_err-put_piece-2-clause-more : goal.returns-in_err-put_piece-2-clause-more
returns-in_err-put_piece-2-clause-more c = more_again c.args.self.now c.loop-set.self c.put_piece-2.new.self c.loop-set.invariant.1.0 c.put_piece-2.ensures.more

pub returns-then-branch-clause-more : goal.returns-then-branch-clause-more
returns-then-branch-clause-more c = more_again c.args.self.now c.loop-set.self c.put_piece-2.new.self c.loop-set.invariant.1.0 c.put_piece-2.ensures.more

pub returns-else-branch-clause-more : goal.returns-else-branch-clause-more
returns-else-branch-clause-more c = more_again c.args.self.now c.loop-set.self c.put_piece-2.new.self c.loop-set.invariant.1.0 c.put_piece-2.ensures.more

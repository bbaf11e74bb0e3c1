use Rattle.std.proofs.Common.{Ok, ap, inl, inr}
use Rattle.std.proofs.lemmas.Result.{err_from_is_err_and}
use Rattle.store_trees.specs.Files.{RefusesHead}
use Rattle.store_trees.proofs.Looks.{nothing_on, passes_on, begins_on}
use Rattle.store_trees.proofs.first_look.look.Goals as goal

pub returns-clause-fine : goal.returns-clause-fine
returns-clause-fine g c =
    let start = c.args.files.now in
    let mid = c.has_log.new.files in
    let new = c.judge_file.new.files in
    let path = c.args.path.now in
    inr (passes_on (g.F.Files.content start) (g.F.Files.content mid) path (g.F.Files.faults start path) (g.F.Files.faults mid path) (g.F.Files.faults new path) c.has_log.ensures.same (c.has_log.ensures.count path) c.in_ok-judge_file.ensures.fine)

pub returns-in_err-judge_file-clause-refused : goal.returns-in_err-judge_file-clause-refused
returns-in_err-judge_file-clause-refused g c =
    let p = err_from_is_err_and c.from_residual-in_err-judge_file.result c.from_residual-in_err-judge_file.ensures.1 in
    let e = c.in_err-judge_file.field-0.0 in
    let start = c.args.files.now in
    let mid = c.has_log.new.files in
    let log = c.args.log.now in
    let faults = g.F.Files.faults in
    rw (p.1, p.2) (elim c.in_err-judge_file.ensures.refused [
      | inl memory ↦ inl memory
      | inr head ↦ inr (
        nothing_on (g.F.Files.content start log) (faults start log) (faults mid log) (faults c.judge_file.new.files log) (c.judge_file.ensures.count log) (c.in_ok-has_log.ensures.none (ap Ok c.if-branch.false)),
        begins_on (g.F.Files.content start) (g.F.Files.content mid) c.args.path.now (λ head. RefusesHead head e) c.has_log.ensures.same head,
      )
    ])

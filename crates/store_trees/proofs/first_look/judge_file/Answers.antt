use Rattle.std.proofs.Common.{subst, inl, inr}
use Rattle.std.proofs.lemmas.Result.{err_from_is_err_and}
use Rattle.store_trees.specs.Files.{MayBeAccounts, RefusesHead}
use Rattle.store_trees.proofs.Looks.{told_head}
use Rattle.store_trees.proofs.first_look.judge_file.Goals as goal

pub returns-in_ok-judge-in-Ok-clause-fine : goal.returns-in_ok-judge-in-Ok-clause-fine
returns-in_ok-judge-in-Ok-clause-fine g c =
    inl (told_head (g.F.Files.content c.args.files.now c.args.path.now) c.in-Ok.head.items MayBeAccounts c.in-Ok.ensures.bytes (subst MayBeAccounts c.deref.ensures.value c.in_ok-judge-in-Ok.ensures.fine))

pub returns-in_err-judge-in-Ok-clause-refused : goal.returns-in_err-judge-in-Ok-clause-refused
returns-in_err-judge-in-Ok-clause-refused g c =
    let p = err_from_is_err_and c.from_residual.result c.from_residual.ensures.1 in
    let e = c.in_err-judge-in-Ok.field-0.0 in
    rw (p.1, p.2) (inr (told_head (g.F.Files.content c.args.files.now c.args.path.now) c.in-Ok.head.items (λ head. RefusesHead head e) c.in-Ok.ensures.bytes
    (subst (λ head. RefusesHead head e) c.deref.ensures.value c.in_err-judge-in-Ok.ensures.refused)))

use Rattle.std.proofs.Common.{sym, ap, ◌∙◌, bytes_eq, codes, ◌<◌, ◌≤◌, length, get_or, ◌≡◌, subst}
use Rattle.variable_coercion.specs.Calls.{environment}
use Rattle.distinct_selections.proofs.Truths.{first_here, first_later, none_first}
use Rattle.distinct_selections.proofs.included.condition_of.Goals as goal

pub returns-then-eq : goal.returns-then-eq
returns-then-eq c =
    let same = c.deref-argument-items.ensures.value in
    c.truth_in.ensures ∙ first_here (environment c.args.variables.now) c.args.directive.now.arguments.items c.loop-argument.argument-index c.argument-item.result _
    (subst (λ xs. c.loop-argument.argument-index < length xs) same c.loop-argument-test.true) (subst (λ xs. c.argument-item.result ≡ get_or xs c.loop-argument.argument-index c.argument-item.result) same c.argument-item.is)
    (ap (λ n. bytes_eq n (codes "if")) (sym c.as_str.ensures) ∙ (sym c.eq.ensures ∙ c.if-eq.true)) c.loop-argument.invariant

pub loop-argument-preserved : goal.loop-argument-preserved
loop-argument-preserved c =
    let same = c.deref-argument-items.ensures.value in
    first_later (environment c.args.variables.now) c.args.directive.now.arguments.items c.loop-argument.argument-index c.argument-item.result _
    (subst (λ xs. c.loop-argument.argument-index < length xs) same c.loop-argument-test.true) (subst (λ xs. c.argument-item.result ≡ get_or xs c.loop-argument.argument-index c.argument-item.result) same c.argument-item.is)
    (ap (λ n. bytes_eq n (codes "if")) (sym c.as_str.ensures) ∙ (sym c.eq.ensures ∙ c.if-eq.false)) c.loop-argument.invariant

pub returns : goal.returns
returns c = none_first (environment c.args.variables.now) c.args.directive.now.arguments.items c.loop-argument.argument-index _ (subst (λ xs. length xs ≤ c.loop-argument.argument-index) c.deref-argument-items.ensures.value c.loop-argument-test.false) c.loop-argument.invariant

use Rattle.std.proofs.Common.{sym, ap, ◌∙◌, Ok, true, false, subst}
use Rattle.std.proofs.lemmas.Result.{err_from_is_err_and}
use Rattle.gql_base.specs.ways.Sources.{ahead, Reads, Halts}
use Rattle.gql_base.specs.parts.TypeReferences.{nullable_at, bang_at, with_bang, list_type, non_null_type}
use Rattle.gql_base.specs.parts.Trees.{type_tree}
use Rattle.gql_base.proofs.WayLaws.Loops.{two_ok, first_halts}
use Rattle.gql_base.proofs.PartLaws.ValueSteps.{nullable_is_list, nullable_is_name, list_type_tree, non_null_tree}
use Rattle.gql_base.proofs.PartLaws.TypeLaws.{type_parts}
use Rattle.gql_base.proofs.parts.types.+types.Goals as goal

pub nullable-returns-in_err-of-clause-read : goal.nullable-returns-in_err-of-clause-read
nullable-returns-in_err-of-clause-read t c =
    let p = err_from_is_err_and c.from_residual.result c.from_residual.ensures.1 in
    rw (p.1, p.2) (subst (Halts c.args.source.now c.in_err-of.field-0.0) (sym (nullable_is_list c.args.levels _ (sym c.is.ensures ∙ c.if-is.true))) c.in_err-of.ensures.read)

pub nullable-returns-then-is-clause-read : goal.nullable-returns-then-is-clause-read
nullable-returns-then-is-clause-read t c =
    nullable_is_list c.args.levels _ (sym c.is.ensures ∙ c.if-is.true) ∙ (c.in_ok-of.ensures.read ∙ ap (λ l. Ok (l, ahead c.args.source.now c.in_ok-of.end)) (ap (λ x. list_type (type_tree x)) (sym c.in_ok-of-2.ensures.ok) ∙ sym (list_type_tree c.in_ok-of-2.of)))

pub nullable-returns-clause-read : goal.nullable-returns-clause-read
nullable-returns-clause-read t c = subst (Reads c.args.source.now (λ x. (type_tree x.0, x.1)) c.named.result) (sym (nullable_is_name c.args.levels _ (sym c.is.ensures ∙ c.if-is.false))) c.named.ensures.read

pub type_reference-returns-in_err-of-clause-read : goal.type_reference-returns-in_err-of-clause-read
type_reference-returns-in_err-of-clause-read t c =
    let p = err_from_is_err_and c.from_residual.result c.from_residual.ensures.1 in
    rw (p.1, p.2) (subst (Halts c.args.source.now c.in_err-of.field-0.0) (sym (type_parts c.args.levels _)) (first_halts with_bang (nullable_at c.args.levels) bang_at _ c.args.source.now c.in_err-of.field-0.0 c.in_err-of.ensures.read))

pub type_reference-returns-then-bang-clause-read : goal.type_reference-returns-then-bang-clause-read
type_reference-returns-then-bang-clause-read t c =
    type_parts c.args.levels _ ∙ (two_ok with_bang (nullable_at c.args.levels) bang_at _ _ _ _ true c.in_ok-of.ensures.read (c.in_ok-bang.ensures.read ∙ ap (λ b. Ok (b, ahead c.args.source.now c.in_ok-bang.end)) c.if-bang.true)
    ∙ ap (λ l. Ok (l, ahead c.args.source.now c.in_ok-bang.end)) (ap (λ x. non_null_type (type_tree x)) (sym c.in_ok-of-2.ensures.ok) ∙ sym (non_null_tree c.in_ok-of-2.of)))

pub type_reference-returns-clause-read : goal.type_reference-returns-clause-read
type_reference-returns-clause-read t c =
    type_parts c.args.levels _ ∙ two_ok with_bang (nullable_at c.args.levels) bang_at _ _ _ _ false c.in_ok-of.ensures.read (c.in_ok-bang.ensures.read ∙ ap (λ b. Ok (b, ahead c.args.source.now c.in_ok-bang.end)) c.if-bang.false)

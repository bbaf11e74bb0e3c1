use Rattle.std.proofs.Common.{map, sym, ap, ◌∙◌}
use Rattle.std.proofs.lemmas.Bool.{eqb-true}
use Rattle.gql_base.specs.parts.Trees.{named_value}
use Rattle.collected_fields.specs.Views.{collected_field}
use Rattle.literal_loads.specs.KnownInputs.{scale_of}
use Rattle.merged_selections.proofs.MadeCalls.{seen_there}
use Rattle.merged_selections.proofs.calls.Calls.seen_same.Goals as goal

pub returns-then-eq-clause-kept : goal.returns-then-eq-clause-kept
returns-then-eq-clause-kept c = λ e kept. (kept.0, kept.1, record { scale = ap scale_of c.are_same.ensures.of ∙ kept.2.scale; right = c.are_same.ensures.right kept.2.right }, kept.3)

pub returns-then-eq-clause-same : goal.returns-then-eq-clause-same
returns-then-eq-clause-same c = λ e kept. seen_there e c.index-call.result.now c.args.of.number (collected_field c.args.field.now) c.as_slice-written.result.now c.as_slice-others.result.now (scale_of c.args.self.now.loads.of) kept.2.scale (eqb-true _ _ (sym c.eq.ensures ∙ c.if-eq.true))
    (ap (map named_value) (sym c.as_slice-written.ensures.value)) (ap (map named_value) (sym c.as_slice-others.ensures.value)) c.args.self.now.made.items c.args.at c.are_same.result c.requires.there c.index-call.ensures (c.are_same.ensures.same kept.2.right)

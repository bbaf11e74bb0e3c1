use Rattle.document_reader.specs.Trees.{selection_tree}
use Rattle.distinct_selections.proofs.AddingSteps.{alike_more}
use Rattle.distinct_selections.proofs.AlikeSteps.{fields_alike, inline_alike, spread_opened, inline_opened}
use Rattle.distinct_selections.proofs.alike.+alike.Goals as goal

pub alike-returns-in-Spread : goal.alike-returns-in-Spread
alike-returns-in-Spread t c = λ is. spread_opened c.args.selection.now c.in-Spread.name c.in-Spread.directives (selection_tree c.args.other.now) c.in-Spread.is (c.alike_spread.ensures is)

pub alike-returns-in-Inline : goal.alike-returns-in-Inline
alike-returns-in-Inline t c = λ is. inline_opened c.args.selection.now c.in-Inline.on c.in-Inline.directives c.in-Inline.selections c.as_slice.result.now (selection_tree c.args.other.now) c.in-Inline.is c.as_slice.ensures.value (c.alike_inline.ensures is)

pub alike_fields-returns-then-alike_calls : goal.alike_fields-returns-then-alike_calls
alike_fields-returns-then-alike_calls t c = λ is. fields_alike c.args.field.now c.args.other.now c.as_slice.result.now c.as_slice-then-alike_calls.result.now c.if-is_empty.ensures (c.alike_calls.ensures.names c.if-alike_calls.true) (c.alike_calls.ensures.given c.if-alike_calls.true)
    c.as_slice.ensures.value c.as_slice-then-alike_calls.ensures.value (c.alike_sets.ensures is)

pub alike_inline-returns-then-same_type : goal.alike_inline-returns-then-same_type
alike_inline-returns-then-same_type t c = λ is directives. inline_alike c.args.on.now c.in-Inline.other c.in-Inline.directives c.in-Inline.others c.args.selections.now c.as_slice.result.now c.args.selection.now directives c.in-Inline.is c.if-is_empty.ensures (c.same_type.ensures c.if-same_type.true) c.as_slice.ensures.value (c.alike_sets.ensures is)

pub alike_sets-set-preserved : goal.alike_sets-set-preserved
alike_sets-set-preserved t c = alike_more c.args.selections.now c.args.others.now c.set.at c.index-selections-at.result c.index-others-at.result c.set-test.true c.if-at-others.true c.index-selections-at.is c.index-others-at.is c.set.invariant (c.alike.ensures c.if-not-alike.false)

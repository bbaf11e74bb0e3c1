use Rattle.std.proofs.Common.{arith, ap, sym, ◌∙◌, get_or, false}
use Rattle.std.proofs.lemmas.List.{length-map}
use Rattle.std.proofs.lemmas.Result.{on_ok_weaker}
use Rattle.document_reader.specs.Trees.{set_tree}
use Rattle.document_rules.specs.Parts.{fragment_data}
use Rattle.operation_class.specs.declared.root_fields.Defined.{Defined}
use Rattle.operation_class.specs.RootFields.{defined_data}
use Rattle.operation_class.proofs.WalkSteps.{gotten, visit_leaves_fewer, visit_enters}
use Rattle.operation_class.proofs.root_fields.visit.Goals as goal

pub returns-clause-fewer : goal.returns-clause-fewer
returns-clause-fewer c = let long = length-map c.args.fragments.now.items.items defined_data in
    on_ok_weaker c.put_in_front.result (λ put.
    visit_leaves_fewer c.args.fragments.now.items.items c.args.visited.now.items c.mark.new.marks.items c.args.number (fragment_data c.index-items-number.result.fragment.now) c.put_in_front.new.parts.items c.args.parts.now.items (set_tree c.as_slice.result.now)
    (ap (λ m. get_or m c.args.number false) (sym c.deref.ensures.value) ∙ sym c.is_marked.ensures ∙ c.if-is_marked.false) c.mark.ensures
    (gotten c.args.fragments.now.items.items c.args.number c.index-items-number.result c.requires.there (c.index-items-number.is ∙ ap (λ l. get_or l c.args.number c.index-items-number.result) c.items.ensures))
    (ap set_tree (c.as_slice.ensures.value ∙ ap (λ (d : Defined). d.fragment.now.selections.items) (sym c.index-items-number.is))) put
    (omega (arith, c.requires.marked, long)) (omega (arith, c.requires.there, long))) c.put_in_front.ensures

pub returns-clause-enters : goal.returns-clause-enters
returns-clause-enters c =
    on_ok_weaker c.put_in_front.result (λ put.
    visit_enters c.args.fragments.now.items.items c.args.visited.now.items c.mark.new.marks.items c.args.number (fragment_data c.index-items-number.result.fragment.now) c.put_in_front.new.parts.items c.args.parts.now.items (set_tree c.as_slice.result.now)
    (ap (λ m. get_or m c.args.number false) (sym c.deref.ensures.value) ∙ sym c.is_marked.ensures ∙ c.if-is_marked.false) c.mark.ensures
    (gotten c.args.fragments.now.items.items c.args.number c.index-items-number.result c.requires.there (c.index-items-number.is ∙ ap (λ l. get_or l c.args.number c.index-items-number.result) c.items.ensures))
    (ap set_tree (c.as_slice.ensures.value ∙ ap (λ (d : Defined). d.fragment.now.selections.items) (sym c.index-items-number.is))) put) c.put_in_front.ensures

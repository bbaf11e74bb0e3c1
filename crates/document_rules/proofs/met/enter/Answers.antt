use Rattle.std.proofs.Common.{arith, length, ap, ◌∙◌, map}
use Rattle.std.specs.Prelude.{slice_get}
use Rattle.std.proofs.lemmas.List.{length-map}
use Rattle.std.proofs.lemmas.Result.{on_ok_weaker}
use Rattle.document_reader.specs.Trees.{set_tree}
use Rattle.document_rules.specs.Parts.{fragment_data}
use Rattle.document_rules.specs.Views.{defined_data}
use Rattle.document_rules.proofs.SpreadSteps.{entered_count, nothing_entered}
use Rattle.document_rules.proofs.met.enter.Goals as goal

pub returns-in-Some-clause-left : goal.returns-in-Some-clause-left
returns-in-Some-clause-left c = let long = length-map c.args.fragments.now.items.items defined_data in
    on_ok_weaker c.add_spreads.result (entered_count (map defined_data c.args.fragments.now.items.items) c.args.seen.now.items c.mark.new.marks.items c.args.one.number (fragment_data c.in-Some.fragment.now) c.add_spreads.new.into.items c.args.spreads.now.items _ (set_tree c.as_slice.result.now)
    c.requires.seen.each (omega (arith, c.requires.there, long)) (c.requires.seen.same c.args.one.number (omega (arith, c.requires.there, long, c.requires.seen.each)) ∙ c.requires.unmet) c.mark.ensures (c.in-Some.ensures.data ∙ ap (λ l. slice_get (map defined_data l) c.args.one.number) c.items.ensures) (ap set_tree c.as_slice.ensures.value))
    c.add_spreads.ensures

pub returns-in-None-clause-left : goal.returns-in-None-clause-left
returns-in-None-clause-left c = let long = length-map c.args.fragments.now.items.items defined_data in
    nothing_entered (map defined_data c.args.fragments.now.items.items) c.args.seen.now.items c.mark.new.marks.items c.args.one.number (length c.args.spreads.now.items) c.requires.seen.each (omega (arith, c.requires.there, long))
    (c.requires.seen.same c.args.one.number (omega (arith, c.requires.there, long, c.requires.seen.each)) ∙ c.requires.unmet) c.mark.ensures (c.in-None.ensures.data ∙ ap (λ l. slice_get (map defined_data l) c.args.one.number) c.items.ensures)

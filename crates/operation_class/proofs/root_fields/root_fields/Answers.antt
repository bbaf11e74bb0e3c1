use Rattle.std.proofs.Common.{length, sym, ap, ◌∙◌}
use Rattle.std.proofs.lemmas.List.{length-map, length-replicate}
use Rattle.document_reader.specs.Trees.{set_tree}
use Rattle.operation_class.specs.RootFields.{defined_data}
use Rattle.operation_class.proofs.WalkSteps.{walk_begins, walk_goes_on, walk_ends, nothing_popped}
use Rattle.operation_class.proofs.root_fields.root_fields.Goals as goal

pub parts-init : goal.parts-init
parts-init c = record {
  marked = ap length c.in_ok-visited.ensures ∙ length-replicate _ _ ∙ ap length c.items.ensures;
  walks = walk_begins c.args.fragments.now.items.items c.new-names.result.items c.in_ok-visited.visited.items c.put_in_front.new.parts.items c.new-parts.result.items (set_tree c.args.selections.now) _
      c.new-names.ensures.items c.in_ok-visited.ensures (ap length c.items.ensures ∙ sym (length-map c.args.fragments.now.items.items defined_data)) c.new-parts.ensures.items c.in_ok-put_in_front.ensures;
}

pub parts-preserved : goal.parts-preserved
parts-preserved c = record {
  marked = c.in_ok-step.ensures.marked;
  walks = walk_goes_on c.args.fragments.now.items.items c.parts.names.items c.step.new.names.items c.parts.visited.items c.step.new.visited.items c.parts.parts.items c.pop.new.self.items c.step.new.parts.items c.in-Some.part _
      c.in-Some.ensures.items c.in_ok-step.ensures.fewer c.in_ok-step.ensures.steps c.parts.invariant.walks;
}

pub returns : goal.returns
returns c = walk_ends c.args.fragments.now.items.items c.parts.names.items c.parts.visited.items c.parts.parts.items _
    (nothing_popped c.pop.result c.parts.parts.items c.pop.new.self.items _ _ c.in_default.is c.pop.ensures.items c.pop.ensures.cases c.pop.ensures.rest) c.parts.invariant.walks

use Rattle.std.proofs.Common.{length, sym, ap, ◌∙◌, map}
use Rattle.std.proofs.lemmas.List.{length-map}
use Rattle.document_reader.specs.Trees.{set_tree}
use Rattle.document_rules.specs.Views.{defined_data, met_data}
use Rattle.document_rules.proofs.SpreadSteps.{walk_begins, walk_goes, popped_none, walk_is_done}
use Rattle.document_rules.proofs.met.reach.Goals as goal

pub loop-spread-init : goal.loop-spread-init
loop-spread-init c = let begins = walk_begins (map defined_data c.args.fragments.now.items.items) c.new-met.result.items c.in_ok-seen.seen.items _ c.add_spreads.new.into.items c.new-spreads.result.items (set_tree c.args.below.now) c.new-met.ensures.items c.in_ok-seen.ensures
    (ap length c.items.ensures ∙ sym (length-map c.args.fragments.now.items.items defined_data)) c.new-spreads.ensures.items c.in_ok-add_spreads.ensures in
    record { seen = begins.0; goes = begins.1 }

pub loop-spread-preserved : goal.loop-spread-preserved
loop-spread-preserved c = record {
  seen = c.in_ok-look_at.ensures.seen;
  goes = walk_goes (map defined_data c.args.fragments.now.items.items) (map met_data c.loop-spread.met.items) (map met_data c.look_at.new.met.items) c.loop-spread.seen.items c.look_at.new.seen.items c.loop-spread.spreads.items c.pop.new.self.items c.look_at.new.spreads.items c.in-Some.spread _
      c.in-Some.ensures.items c.in_ok-look_at.ensures.left c.in_ok-look_at.ensures.goes c.loop-spread.invariant.goes;
}

pub returns : goal.returns
returns c = walk_is_done (map defined_data c.args.fragments.now.items.items) _ (map met_data c.loop-spread.met.items) c.loop-spread.spreads.items _
    (popped_none c.pop.result c.loop-spread.spreads.items c.pop.new.self.items _ _ c.in_default.is c.pop.ensures.items c.pop.ensures.cases c.pop.ensures.rest) c.loop-spread.invariant.goes

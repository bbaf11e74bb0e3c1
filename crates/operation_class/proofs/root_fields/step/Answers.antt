use Rattle.std.proofs.Common.{ap, sym, ◌∙◌, map, subst}
use Rattle.std.proofs.lemmas.List.{map_push}
use Rattle.std.proofs.lemmas.Result.{on_ok_weaker}
use Rattle.document_rules.specs.Views.{seen_name}
use Rattle.operation_class.specs.RootParts.{RootPart, part_data}
use Rattle.operation_class.specs.Steps.{Steps}
use Rattle.operation_class.proofs.WalkSteps.{field_steps, spread_steps, unknown_steps}
use Rattle.operation_class.proofs.root_fields.step.Goals as goal

pub returns-in_ok-push-in-Field-clause-steps : goal.returns-in_ok-push-in-Field-clause-steps
returns-in_ok-push-in-Field-clause-steps c =
    subst (λ (p : RootPart). Steps c.args.fragments.now.items.items p c.args.names.now.items c.args.visited.now.items c.args.parts.now.items c.push.new.self.items c.args.visited.now.items c.args.parts.now.items)
    (sym (ap part_data c.in-Field.is))
    (field_steps c.args.fragments.now.items.items c.args.names.now.items c.push.new.self.items c.args.visited.now.items c.args.visited.now.items c.args.parts.now.items c.args.parts.now.items (seen_name c.in-Field.name)
    (ap (map seen_name) c.in_ok-push-in-Field.ensures.items ∙ map_push seen_name c.args.names.now.items c.in-Field.name))

pub returns-in-Some-clause-steps : goal.returns-in-Some-clause-steps
returns-in-Some-clause-steps c = on_ok_weaker c.visit.result (λ enters.
    subst (λ (p : RootPart). Steps c.args.fragments.now.items.items p c.args.names.now.items c.args.visited.now.items c.args.parts.now.items c.args.names.now.items c.visit.new.visited.items c.visit.new.parts.items)
    (sym (ap part_data c.in-Spread.is))
    (spread_steps c.args.fragments.now.items.items c.args.names.now.items c.args.names.now.items c.args.visited.now.items c.visit.new.visited.items c.args.parts.now.items c.visit.new.parts.items c.in-Spread.name.now c.in-Some.number
    (sym c.number_of.ensures.place ∙ c.in-Some.is) enters)) c.visit.ensures.enters

pub returns-in-None-clause-steps : goal.returns-in-None-clause-steps
returns-in-None-clause-steps c =
    subst (λ (p : RootPart). Steps c.args.fragments.now.items.items p c.args.names.now.items c.args.visited.now.items c.args.parts.now.items c.args.names.now.items c.args.visited.now.items c.args.parts.now.items)
    (sym (ap part_data c.in-Spread.is))
    (unknown_steps c.args.fragments.now.items.items c.args.names.now.items c.args.names.now.items c.args.visited.now.items c.args.visited.now.items c.args.parts.now.items c.args.parts.now.items c.in-Spread.name.now
    (sym c.number_of.ensures.place ∙ c.in-None.is))

use Rattle.std.proofs.Common.{◌∙◌, refl, ap, map, Some}
use Rattle.std.specs.Prelude.{option_map}
use Rattle.std.proofs.lemmas.List.{map_push}
use Rattle.std.proofs.lemmas.Map.Text.{btree_map_updates_str}
use Rattle.schema_model.specs.Numbers.{type_number}
use Rattle.collected_fields.specs.Steps.{step_data}
use Rattle.collected_fields.proofs.PrepareLaws.{knows_new, knows_kept}
use Rattle.collected_fields.proofs.steps.Draft.keep.Goals as goal

pub returns-in_ok-insert-clause-leaves : goal.returns-in_ok-insert-clause-leaves
returns-in_ok-insert-clause-leaves c = λ knows. knows_new (option_map type_number c.args.self.now.parent) (map step_data c.args.self.now.steps.items) (map step_data c.push.new.self.items) c.args.self.now.leaves c.insert.new.self c.args.field c.args.below
    c.key_of-then-not-contains_key.result.now (ap (map step_data) c.in_ok-push.ensures.items ∙ map_push step_data c.args.self.now.steps.items _)
    (btree_map_updates_str c.key_of-then-not-contains_key.result.now c.args.self.now.leaves c.insert.new.self (Some c.args.field) c.in_ok-insert.ensures.updates) c.key_of-then-not-contains_key.ensures (c.if-is_leaf.ensures.0 refl) knows

pub returns-else-is_leaf-clause-leaves : goal.returns-else-is_leaf-clause-leaves
returns-else-is_leaf-clause-leaves c = λ knows. knows_kept (option_map type_number c.args.self.now.parent) (map step_data c.args.self.now.steps.items) (map step_data c.push.new.self.items) c.args.self.now.leaves c.args.field.now c.args.below
    (ap (map step_data) c.in_ok-push.ensures.items ∙ map_push step_data c.args.self.now.steps.items _) knows

use Rattle.std.proofs.Common.{refl}
use Rattle.std.proofs.lemmas.Result.{on_ok_weaker}
use Rattle.collected_fields.specs.Walks.{walk_data}
use Rattle.collected_fields.proofs.CollectLaws.{walked_to, reached_for, lists_reached_for, none_reached_for, no_list_reached_for}
use Rattle.collected_fields.proofs.collector.Collector.walk_over.Goals as goal

pub returns-then-is_object-clause-come : goal.returns-then-is_object-clause-come
returns-then-is_object-clause-come c = on_ok_weaker c.walk_numbers.result
    (λ same. walked_to c.args.self.now c.args.of.number c.args.numbers.now c.args.self.now.reaches.sets c.args.self.now.reaches.lists (walk_data c.clear.new.self) (walk_data c.walk_numbers.new.walk) _ (reached_for c.args.self.now c.args.of.number (c.is_object.ensures c.if-is_object.true)) (lists_reached_for c.args.self.now c.args.of.number (c.is_object.ensures c.if-is_object.true)) c.clear.ensures same refl)
    c.walk_numbers.ensures

pub returns-clause-come : goal.returns-clause-come
returns-clause-come c = on_ok_weaker c.walk_numbers-2.result
    (λ same. walked_to c.args.self.now c.args.of.number c.args.numbers.now c.new-none.result c.new-none.result (walk_data c.clear.new.self) (walk_data c.walk_numbers-2.new.walk) _ (none_reached_for c.args.self.now c.args.of.number c.new-none.result c.new-none.ensures) (no_list_reached_for c.args.self.now c.args.of.number c.new-none.result c.new-none.ensures) c.clear.ensures same refl)
    c.walk_numbers-2.ensures

use Rattle.std.proofs.Common.{length, map, ap, ◌∙◌, arith}
use Rattle.std.proofs.lemmas.List.{map_push}
use Rattle.schema_facts.specs.Things.{thing_data}
use Rattle.schema_facts.proofs.Lists.{one_more_type}
use Rattle.schema_facts.proofs.table.all_types.Goals as goal

pub types-preserved : goal.types-preserved
types-preserved c =
    one_more_type c.args.facts.now.types.items.items c.types.number (map thing_data c.types.things.items) (map thing_data c.push.new.self.items) _
    (omega (arith, c.types-test.true, ap length c.items-number-end.ensures)) (ap (map thing_data) c.in_ok-push.ensures.items ∙ map_push thing_data c.types.things.items _) c.types.invariant

use Rattle.std.proofs.Common.{sym, ◌∙◌}
use Rattle.std.specs.BTreeMap.{get}
use Rattle.input_values.specs.values.Coerced.{coerced_tree}
use Rattle.input_values.specs.defaults.Filling.{drafts, pair_cmp, table_of}
use Rattle.input_values.proofs.FillingSteps.Found.{some_there, none_there, put_result, found_before}
use Rattle.input_values.proofs.defaults.rounds.fill_place.Goals as goal

pub returns-then-contains_key-clause-fills : goal.returns-then-contains_key-clause-fills
returns-then-contains_key-clause-fills c =
    let there = some_there coerced_tree (get pair_cmp c.args.filled.now.values (c.args.of, c.args.at)) (sym c.contains_key.ensures ∙ c.if-contains_key.true) in
    found_before (drafts c.args.filled.now.types.items) (table_of c.args.filled.now.values) c.args.of c.args.at there.0 there.1

pub returns-in-Ok-clause-fills : goal.returns-in-Ok-clause-fills
returns-in-Ok-clause-fills c =
    put_result c.put.result (drafts c.args.filled.now.types.items) c.args.filled.now.values c.put.new.filled.values c.args.of c.args.at c.in-Ok.value c.put.ensures.done c.put.ensures.updates
    (none_there coerced_tree (get pair_cmp c.args.filled.now.values (c.args.of, c.args.at)) (sym c.contains_key.ensures ∙ c.if-contains_key.false)) c.in-Ok.ensures

use Rattle.std.proofs.Common.{◌≡◌, Some, List, get_or, refl, subst}
use Rattle.std.specs.List.{slice_get}
use Rattle.std.proofs.lemmas.Option.{slice_get_read}
use Rattle.collected_fields.specs.declared.tables.SelectionList.{SelectionList}
use Rattle.collected_fields.proofs.SpreadLaws.{only_one, spreads_told}
use Rattle.collected_fields.proofs.collector.Collector.spread_alone.Goals as goal

pub returns-in-Some : goal.returns-in-Some
returns-in-Some c =
    let found = c.in-Some.ensures.lookup in
    spreads_told c.args.self.now c.args.numbers.now (get_or c.args.numbers.now 0 0) c.in-Some.list.now (only_one c.args.numbers.now c.in-len1.len_at_least c.in-len1.len_below) c.if-number-self.false
    (subst (λ (ls : List SelectionList). slice_get ls (get_or c.args.numbers.now 0 0) ≡ Some c.in-Some.list.now) c.deref.ensures.value (slice_get_read c.deref.result.now _ (get_or c.args.numbers.now 0 0) c.in-Some.list.now refl found.3.0 found.1))
    (λ name. name.now) c.spread_alone.result c.spread_alone.ensures

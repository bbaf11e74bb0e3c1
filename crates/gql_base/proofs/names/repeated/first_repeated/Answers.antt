use Rattle.std.proofs.Common.{◌+◌, ◌∷◌, sym, ap, ◌∙◌, drop, map}
use Rattle.std.specs.Prelude.{is_some, Some}
use Rattle.std.proofs.lemmas.List.{drop_more}
use Rattle.std.proofs.lemmas.Map.Text.{btree_map_updates_str}
use Rattle.gql_base.specs.names.Names.{repeated_from}
use Rattle.gql_base.specs.names.Indexes.{at_name}
use Rattle.gql_base.proofs.NameLaws.RepeatedLaws.{sees, is_new}
use Rattle.gql_base.proofs.names.repeated.first_repeated.Goals as goal

pub loop-at-preserved : goal.loop-at-preserved
loop-at-preserved g c =
    let e = c.in_ok-before.ensures in
    let name_of = g.T.Named.name_of in
    let seen = c.loop-at.invariant.seen in
    let rest = map name_of (drop (c.loop-at.at + 1) c.args.items.now) in
    let item = drop_more c.args.items.now c.loop-at.at c.index-items-at.result c.loop-at-test.true in
    record {
      seen = c.name.result.now ∷ seen;
      knows = sees (at_name c.loop-at.seen) (at_name c.insert.new.self) c.name.result.now c.loop-at.at seen
          (btree_map_updates_str c.name.result.now c.loop-at.seen c.insert.new.self (Some c.loop-at.at) e.updates) c.loop-at.invariant.knows;
      same = is_new seen c.loop-at.at c.name.result.now rest _
          (sym (c.loop-at.invariant.knows c.name.result.now) ∙ (ap is_some (sym e.old) ∙ (sym c.is_some.ensures ∙ c.if-is_some.false)))
          (ap (λ n. repeated_from seen c.loop-at.at (n ∷ rest)) (c.name.ensures ∙ ap name_of c.index-items-at.is)
          ∙ (ap (λ l. repeated_from seen c.loop-at.at (map name_of l)) (sym item) ∙ c.loop-at.invariant.same));
    }

use Rattle.std.proofs.Common.{◌∙◌, ◌≡◌, ◌-◌, ◌+◌, arith, ap, drop, map, subst, sym}
use Rattle.std.specs.Prelude.{Some}
use Rattle.std.proofs.lemmas.Map.Text.{btree_map_updates_str}
use Rattle.gql_base.specs.names.Names.{are_distinct}
use Rattle.gql_base.specs.names.Indexes.{at_name, FindsFrom}
use Rattle.gql_base.proofs.NameLaws.IndexLaws.{put_first, still_distinct, dropped_before}
use Rattle.gql_base.proofs.names.index.index_of.Goals as goal

pub loop-at-preserved : goal.loop-at-preserved
loop-at-preserved g c =
    let e = c.in_ok-later.ensures in
    let name_of = g.T.Named.name_of in
    let before = c.loop-at.at - 1 in
    let p = c.loop-at-test.true in
    let back : c.loop-at.at ≡ before + 1 = omega arith in
    let d = dropped_before c.args.items.now c.loop-at.at c.index-items-at.result p c.loop-at.auto.at c.index-items-at.is in
    record {
      finds = subst (FindsFrom before (at_name c.insert.new.self) name_of) (sym d)
          (put_first name_of before (at_name c.loop-at.firsts) (at_name c.insert.new.self) c.index-items-at.result _ c.name.result.now c.name.ensures
          (btree_map_updates_str c.name.result.now c.loop-at.firsts c.insert.new.self (Some before) e.updates)
          (subst (λ n. FindsFrom n (at_name c.loop-at.firsts) name_of (drop c.loop-at.at c.args.items.now)) back c.loop-at.invariant.finds));
      tells = still_distinct name_of c.loop-at.at (at_name c.loop-at.firsts) c.index-items-at.result _ c.name.result.now c.in_ok-later.later _ _ c.name.ensures e.old c.is_none-distinct.ensures c.loop-at.invariant.finds c.loop-at.invariant.tells
          ∙ ap (λ l. are_distinct (map name_of l)) (sym d);
    }

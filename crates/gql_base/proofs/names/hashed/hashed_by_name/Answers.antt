use Rattle.std.proofs.Common.{◌≡◌, ◌∙◌, ◌-◌, ◌+◌, ◌≤◌, arith, drop, length, subst, sym}
use Rattle.std.specs.Prelude.{Some}
use Rattle.std.specs.HashMap.{get_by_text}
use Rattle.std.specs.String.{string_bytes}
use Rattle.std.proofs.lemmas.Map.Text.{hash_map_updates_text}
use Rattle.gql_base.specs.names.Indexes.{FindsFrom}
use Rattle.gql_base.proofs.NameLaws.IndexLaws.{put_first, dropped_before}
use Rattle.gql_base.proofs.names.hashed.hashed_by_name.Goals as goal

pub loop-at-preserved : goal.loop-at-preserved
loop-at-preserved g c =
    let name_of = g.T.Named.name_of in
    let before = c.loop-at.at - 1 in
    let p = c.loop-at-test.true in
    let within : c.loop-at.at ≤ length c.args.items.items = (let e = c.len-at.ensures in let h = c.loop-at.auto.at in omega arith) in
    let back : c.loop-at.at ≡ before + 1 = omega arith in
    let d = dropped_before c.args.items.items c.loop-at.at c.index.result.now p within c.index.ensures in
    let key = string_bytes c.in_ok-name.name in
    subst (FindsFrom before (get_by_text c.insert.new.self) name_of) (sym d)
    (put_first name_of before (get_by_text c.loop-at.firsts) (get_by_text c.insert.new.self) c.index.result.now _ key (c.in_ok-name.ensures.ok ∙ c.name.ensures)
    (hash_map_updates_text key c.loop-at.firsts c.insert.new.self (Some before) c.in_ok-insert.ensures.updates)
    (subst (λ n. FindsFrom n (get_by_text c.loop-at.firsts) name_of (drop c.loop-at.at c.args.items.items)) back c.loop-at.invariant))

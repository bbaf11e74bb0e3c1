use Rattle.std.proofs.Common.{◌∙◌, List, length, get_or, map, sym, ap, subst}
use Rattle.std.proofs.lemmas.List.{get_or-replicate}
use Rattle.account_core.specs.declared.Account.{Account}
use Rattle.account_core.specs.Machine.{first}
use Rattle.account_core.specs.Numbers.{StandsFor}
use Rattle.account_core.proofs.Histories.{legal-empty}
use Rattle.account_journal.specs.Recovery.{grant_view}
use Rattle.account_journal.specs.Histories.{no_limit, no_account}
use Rattle.account_journal.proofs.reading.Reading.new.Goals as goal

pub returns-clause-lists : goal.returns-clause-lists
returns-clause-lists c = record {
  stands = record {
    each = λ k lt.
        let is = ap (λ (l : List Account). get_or l k no_account) (c.in-Ok.ensures.items_if_clones_equal (λ y same. same)) ∙ get_or-replicate (length c.args.limits.now) k c.fresh.result no_account lt in
        (legal-empty (get_or c.args.limits.now k no_limit), subst (λ (a : Account). StandsFor a first) (sym is) c.fresh.ensures.first);
    below = λ k. tt;
    counted = ap length c.new.ensures.items;
    known = tt;
  };
  leaves = ap (map grant_view) (sym c.new.ensures.items);
}

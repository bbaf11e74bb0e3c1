use Rattle.std.proofs.Common.{rules, ℕ, List, sym, ◌∙◌, true≢false}
use lib.Pointwise.{bytes_decides}
use Rattle.crossbeam_utils.specs.Seq.{cell_view}
use Rattle.account_cells.specs.Outcomes.{Looked}
use Rattle.account_cells.proofs.Picked.{grants_picked, lost_means}
use Rattle.account_cells.proofs.try_grant.Goals as goal

pub compare_exchange_as-requires : goal.compare_exchange_as-requires
compare_exchange_as-requires g c =
    let p = c.requires.picked in (
      search rules,
      (
        search rules,
        (c.requires.cell, grants_picked _ _ _ _ _ _ _ _ _ _ _ _ p.0 p.1 p.2 p.3 c.requires.next c.requires.live c.requires.new c.requires.granted),
      ),
    )

pub returns-clause-lost : goal.returns-clause-lost
returns-clause-lost g c lost =
    lost_means c.compare_exchange_as.result _ _ ((words : List ℕ) × Looked (cell_view c.args.pass.now) words (cell_view c.compare_exchange_as.new.pass)) (sym c.is_ok.ensures.value ∙ lost)
    c.compare_exchange_as.ensures.rule
    (λ x r. (x, r.1.1 (λ is. true≢false (sym ((bytes_decides x c.args.found).1 (is ∙ c.requires.picked.3)) ∙ r.0))))

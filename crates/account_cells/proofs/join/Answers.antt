use Rattle.std.proofs.Common.{rules, ◌≡◌, true, ap, ◌∙◌}
use Rattle.crossbeam_utils.specs.Seq.{cell_view}
use Rattle.account_core.specs.Sums.{open_grants}
use Rattle.account_cells.specs.Views.{View}
use Rattle.account_cells.proofs.Splits.{hands_over}
use Rattle.account_cells.proofs.Joins.{joins, compares}
use Rattle.account_cells.proofs.join.Goals as goal

pub split_pass-handed_over-requires : goal.split_pass-handed_over-requires
split_pass-handed_over-requires g c = (search rules, (search rules, (c.requires.theirs, hands_over _ _ c.requires.live)))

pub join_pass-requires : goal.join_pass-requires
join_pass-requires g c =
    let same = c.split_pass-handed_over.ensures.given.1 in (
      search rules,
      (
        search rules,
        (
          search rules,
          joins _ _ _ _ c.requires.first.0 c.requires.first.1 (ap (λ (v : View). v.live) same ∙ c.requires.live) (ap (λ (v : View). open_grants v.own) same ∙ c.requires.idle),
        ),
      ),
    )

pub load_as-requires : goal.load_as-requires
load_as-requires g c =
    let joined = c.join_pass.ensures in
    let live : (cell_view c.join_pass.new.pass).live ≡ true = ap (λ (v : View). v.live) joined.1 ∙ c.requires.first.0 in
    (search rules, (search rules, (joined.0.0 ∙ c.requires.cell, compares _ _ live)))

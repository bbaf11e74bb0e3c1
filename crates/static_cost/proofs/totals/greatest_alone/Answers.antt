use Rattle.static_cost.proofs.RowCosts.{alone_in_fields}
use Rattle.static_cost.proofs.totals.greatest_alone.Goals as goal

pub returns-in-Fields : goal.returns-in-Fields
returns-in-Fields c = rw (c.in-Fields.is) (alone_in_fields _)

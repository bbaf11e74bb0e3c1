use Rattle.response_model.specs.Components.{part_of}
use Rattle.static_cost.proofs.Picks.{no_totals, none_picked}
use Rattle.static_cost.proofs.choices.Picks.new.Goals as goal

pub returns : goal.returns
returns c = (no_totals (part_of c.args.part) c.new.result c.new.ensures, λ d within. none_picked (part_of c.args.part) 52 d)

use Rattle.cost_num.proofs.printed.+write_shown.Given as goal

abbrev pub decreases-write_shown : goal.decreases-write_shown
decreases-write_shown l = l.places

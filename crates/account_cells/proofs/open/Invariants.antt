use Rattle.account_cells.proofs.open.Given as goal

abbrev pub ghosts-set_limit : goal.ghosts-set_limit
ghosts-set_limit a = record { limit = a.limit }

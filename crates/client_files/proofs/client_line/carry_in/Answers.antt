use Rattle.std.proofs.Common.{sym}
use Rattle.client_files.proofs.Lines.{single_word}
use Rattle.client_files.proofs.client_line.carry_in.Goals as goal

pub returns-in-len1-clause-some : goal.returns-in-len1-clause-some
returns-in-len1-clause-some c = single_word c.args.words.now _ _ c.in-len1.len_at_least c.in-len1.len_below (sym c.if-eq.ensures)

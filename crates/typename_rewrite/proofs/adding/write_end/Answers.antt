use Rattle.std.proofs.lemmas.Result.{on_ok_weaker}
use Rattle.gql_base.specs.printing.Printers.{printed_by}
use Rattle.typename_rewrite.proofs.AddingSteps.{end_put}
use Rattle.typename_rewrite.proofs.adding.write_end.Goals as goal

pub returns-in_ok-mark : goal.returns-in_ok-mark
returns-in_ok-mark c = on_ok_weaker c.word-then-asked.result (λ e. end_put (printed_by c.args.printer.now) (printed_by c.word.new.self) (printed_by c.mark.new.self) (printed_by c.word-then-asked.new.self) c.args.by.alias.now c.args.asked c.if-asked.true c.in_ok-word.ensures c.in_ok-mark.ensures e) c.word-then-asked.ensures

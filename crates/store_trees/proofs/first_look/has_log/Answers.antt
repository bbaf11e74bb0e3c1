use Rattle.store_trees.proofs.Looks.{some_content, no_content}
use Rattle.store_trees.proofs.first_look.has_log.Goals as goal

pub returns-in-Ok-clause-some : goal.returns-in-Ok-clause-some
returns-in-Ok-clause-some g c =
    some_content (g.F.Files.content c.args.files.now c.args.log.now) c.in-Ok.found.items c.in-Ok.found.len c.is_empty.result c.in-Ok.ensures.bytes c.in-Ok.found.ok.0 c.is_empty.ensures

pub returns-in-Ok-clause-none : goal.returns-in-Ok-clause-none
returns-in-Ok-clause-none g c =
    no_content (g.F.Files.content c.args.files.now c.args.log.now) c.in-Ok.found.items c.in-Ok.found.len c.is_empty.result (g.F.Files.faults c.args.files.now c.args.log.now)
    (g.F.Files.faults c.read.new.self c.args.log.now) c.in-Ok.ensures.bytes c.in-Ok.found.ok.0 c.is_empty.ensures

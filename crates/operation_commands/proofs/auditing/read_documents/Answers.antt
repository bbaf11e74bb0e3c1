use Rattle.std.proofs.Common.{◌≡◌, ◌∙◌, Contains, map, sym, subst}
use Rattle.std.proofs.lemmas.List.Elements.{Contains-get_or}
use Rattle.command_outcomes.specs.Outcomes.{files_told}
use Rattle.command_outcomes.proofs.ReadFiles.{stopped_sooner}
use Rattle.operation_commands.proofs.AuditWalks.{bytes_of}
use Rattle.operation_commands.proofs.ReadDocuments.{all_read, stopped_wider}
use Rattle.operation_commands.proofs.auditing.read_documents.Goals as goal

pub returns-in-Err-clause-stopped : goal.returns-in-Err-clause-stopped
returns-in-Err-clause-stopped g c =
    let names = c.args.names.now in
    let name = c.index-names-at.result in
    let files = files_told (g.F.Files.content c.args.files.now) (g.F.Files.faults c.args.files.now) (g.F.Files.faults c.read_document.new.files) in
    stopped_wider (λ other. other ≡ name) (Contains names) files c.in-Err.outcome
    (λ other is. subst (Contains names) (sym (is ∙ c.index-names-at.is)) (Contains-get_or names c.loop-at.at name c.loop-at-test.true))
    (stopped_sooner (g.F.Files.content c.args.files.now) (g.F.Files.content c.loop-at.files) (g.F.Files.faults c.args.files.now) (g.F.Files.faults c.loop-at.files) (g.F.Files.faults c.read_document.new.files)
    c.loop-at.invariant.same c.loop-at.invariant.still (λ other. other ≡ name) c.in-Err.outcome c.in-Err.ensures.stopped)

pub returns-clause-read : goal.returns-clause-read
returns-clause-read g c =
    all_read (g.F.Files.content c.args.files.now) c.args.names.now c.loop-at.at (map bytes_of c.loop-at.contents.items) c.loop-at-test.false c.loop-at.invariant.read

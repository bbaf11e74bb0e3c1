-- The schema's file was read before, and then those of the documents.
use Rattle.std.proofs.Common.{◌∙◌, inl, inr, Contains, length, map, sym, ap, subst}
use Rattle.std.proofs.lemmas.List.{length-map}
use Rattle.std.proofs.lemmas.List.Elements.{length_all_zip}
use Rattle.command_outcomes.specs.declared.limits.TheConstants.{DOCUMENT_LIMIT}
use Rattle.command_outcomes.specs.Reading.{IsRead}
use Rattle.command_outcomes.specs.Outcomes.{files_told, IsStopped}
use Rattle.command_outcomes.proofs.ReadFiles.{stopped_sooner}
use Rattle.operation_commands.specs.Audit.{AreRead, AuditOf}
use Rattle.operation_commands.proofs.AuditWalks.{bytes_of}
use Rattle.operation_commands.proofs.auditing.audit.Goals as goal

pub returns-in-Err : goal.returns-in-Err
returns-in-Err g c = inl c.in-Err.ensures.none

pub audit_files-requires-clause-same : goal.audit_files-requires-clause-same
audit_files-requires-clause-same g c =
    let files = c.in-Ok-read_documents.contents.items in
    sym (ap length c.deref.ensures.value)
    ∙ (length_all_zip (λ name bytes. IsRead DOCUMENT_LIMIT (g.F.Files.content c.read_text.new.files name) bytes) c.deref.result.now (map bytes_of files) c.in-Ok-read_documents.ensures.read
    ∙ (length-map files bytes_of ∙ sym (ap length c.deref-in-Ok-read_documents.ensures.value)))

pub returns-in-Ok-read_documents : goal.returns-in-Ok-read_documents
returns-in-Ok-read_documents g c =
    let contents = map bytes_of c.in-Ok-read_documents.contents.items in
    let read = subst (λ content. AreRead content c.deref.result.now contents) c.in-Ok.ensures.same c.in-Ok-read_documents.ensures.read in
    inr (inr (
      c.in-Ok.schema,
      contents,
      c.in-Ok.ensures.held,
      subst (λ names. AreRead (g.F.Files.content c.args.files.now) names contents) c.deref.ensures.value read,
      subst (λ files. AuditOf c.args.asked.now c.in-Ok.schema (map bytes_of files) c.audit_files.result) c.deref-in-Ok-read_documents.ensures.value c.audit_files.ensures,
      λ name. c.in-Ok-read_documents.ensures.still name ∙ c.in-Ok.ensures.still name,
    ))

pub returns-in-Err-read_documents : goal.returns-in-Err-read_documents
returns-in-Err-read_documents g c =
    let later = files_told (g.F.Files.content c.read_text.new.files) (g.F.Files.faults c.read_text.new.files) (g.F.Files.faults c.read_documents.new.files) in
    let stopped = subst (λ names. IsStopped (Contains names) later c.in-Err-read_documents.outcome) c.deref.ensures.value c.in-Err-read_documents.ensures.stopped in
    inr (inl (
      (c.in-Ok.schema, c.in-Ok.ensures.held),
      stopped_sooner (g.F.Files.content c.args.files.now) (g.F.Files.content c.read_text.new.files) (g.F.Files.faults c.args.files.now) (g.F.Files.faults c.read_text.new.files) (g.F.Files.faults c.read_documents.new.files)
          c.in-Ok.ensures.same c.in-Ok.ensures.still (Contains c.args.asked.now.documents.items) c.in-Err-read_documents.outcome stopped,
    ))

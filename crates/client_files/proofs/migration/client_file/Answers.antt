use Rattle.std.proofs.Common.{subst, sym, ap, ◌∙◌}
use Rattle.std.specs.Prelude.{string_bytes}
use Rattle.client_files.specs.Lines.{lines_of}
use Rattle.client_files.specs.ClientFiles.{AreFileLines}
use Rattle.client_files.specs.Written.{client_file}
use Rattle.client_files.proofs.WrittenFiles.{first_lines, more_lines, all_lines, written_is_read}
use Rattle.client_files.proofs.migration.client_file.Goals as goal

pub loop-client-init : goal.loop-client-init
loop-client-init c = first_lines c.args.clients.now.window_seconds (string_bytes c.in_ok-file.file) c.in_ok-file.ensures.ok

pub loop-client-preserved : goal.loop-client-preserved
loop-client-preserved c = more_lines c.args.clients.now.window_seconds c.deref-client-items.result.now c.loop-client.client-index c.client-item.result c.loop-client-test.true c.client-item.is (string_bytes c.loop-client.file) (string_bytes c.write_client.new.file) c.loop-client.invariant c.in_ok-write_client.ensures

pub returns-clause-written : goal.returns-clause-written
returns-clause-written c =
    c.from.ensures ∙ (all_lines c.args.clients.now.window_seconds c.deref-client-items.result.now c.loop-client.client-index (string_bytes c.loop-client.file) c.loop-client-test.false c.loop-client.invariant
    ∙ ap (client_file c.args.clients.now.window_seconds) c.deref-client-items.ensures.value)

pub returns-clause-read : goal.returns-clause-read
returns-clause-read c =
    let written = c.from.ensures ∙ (all_lines c.args.clients.now.window_seconds c.deref-client-items.result.now c.loop-client.client-index (string_bytes c.loop-client.file) c.loop-client-test.false c.loop-client.invariant
    ∙ ap (client_file c.args.clients.now.window_seconds) c.deref-client-items.ensures.value) in
    subst (λ text. AreFileLines (lines_of text) c.args.clients.now.window_seconds c.args.clients.now.clients.items) (sym written) (written_is_read c.args.clients.now.window_seconds c.args.clients.now.clients.items c.requires)

use Rattle.std.proofs.lemmas.Result.{err_from_is_err_and}
use Rattle.client_files.proofs.ReadTexts.{gives_text, stays}
use Rattle.client_files.proofs.migration.migrate_clients.Goals as goal

pub returns-in_err-clients-clause-only_file : goal.returns-in_err-clients-clause-only_file
returns-in_err-clients-clause-only_file c = λ seconds clients given.
    let p = err_from_is_err_and c.from_residual.result c.from_residual.ensures.1 in
    rw (p.1, p.2) (c.in_err-clients.ensures.only_file seconds clients given)

pub returns-clause-stays : goal.returns-clause-stays
returns-clause-stays c =
    stays c.args.text.now c.in_ok-client_file.field-0 c.in_ok-clients.clients.window_seconds c.in_ok-clients.clients.clients.items c.in_ok-clients.ensures.file c.in_ok-client_file.ensures.written c.in_ok-client_file.ensures.read

pub returns-clause-only_file : goal.returns-clause-only_file
returns-clause-only_file c =
    gives_text c.args.text.now c.in_ok-client_file.field-0 c.in_ok-clients.clients.window_seconds c.in_ok-clients.clients.clients.items c.in_ok-clients.ensures.file c.in_ok-client_file.ensures.written

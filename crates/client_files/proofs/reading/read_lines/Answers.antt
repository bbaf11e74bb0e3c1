use Rattle.std.proofs.lemmas.Result.{err_from_is_err_and}
use Rattle.client_files.proofs.ReadTexts.{tells_version, tells_window, tells_clients}
use Rattle.client_files.proofs.reading.read_lines.Goals as goal

pub returns-in_default-version_in-clause-fault : goal.returns-in_default-version_in-clause-fault
returns-in_default-version_in-clause-fault c = tells_version c.args.lines.now c.in-Some.first.now c.in-Some.rest.now c.in-Some.ensures.cases.0 c.in_default-version_in.ensures.none

pub returns-in_default-window_in-clause-fault : goal.returns-in_default-window_in-clause-fault
returns-in_default-window_in-clause-fault c =
    tells_window c.args.lines.now c.in-Some.first.now c.in-Some.rest.now c.in-Some.ensures.cases.0 c.in-Some-split_first.second.now c.in-Some-split_first.further.now c.in-Some-split_first.ensures.cases.0 c.in-Some-version_in.version c.in-Some-version_in.ensures.some
    c.in_default-window_in.ensures.none

pub returns-in_err-clients-clause-fault : goal.returns-in_err-clients-clause-fault
returns-in_err-clients-clause-fault c =
    let p = err_from_is_err_and c.from_residual.result c.from_residual.ensures.1 in
    rw (p.1, p.2) (tells_clients c.args.lines.now c.in-Some.first.now c.in-Some.rest.now c.in-Some.ensures.cases.0 c.in-Some-split_first.second.now c.in-Some-split_first.further.now c.in-Some-split_first.ensures.cases.0 c.in-Some-version_in.version c.in-Some-version_in.ensures.some
    c.in-Some-window_in.window_seconds c.in-Some-window_in.ensures.some c.in_err-clients.field-0.0 c.in_err-clients.ensures.fault)

use Rattle.std.proofs.Common.{List, ℕ, Bor, map, subst, ap, ◌∙◌}
use Rattle.std.specs.Prelude.{IfOk, IfErr}
use Rattle.client_files.specs.Lines.{lines_of}
use Rattle.client_files.specs.ClientFiles.{AreFileLines}
use Rattle.client_files.specs.Faults.{IsFaultOf}
use Rattle.client_files.proofs.ReadTexts.{read_parts, all_served, all_given, all_told}
use Rattle.client_files.proofs.reading.read_clients.Goals as goal

pub returns-clause-file : goal.returns-clause-file
returns-clause-file c =
    let lines = read_parts c.args.text.now c.as_slice-parts.result.now c.line_count.result (ap (map (λ (part : Bor (List ℕ)). part.now)) c.as_slice-parts.ensures.value ∙ c.in_ok-between_line_feeds.ensures) c.line_count.ensures.lines in
    let file = subst (λ ls. IfOk c.read_lines.result (λ read. AreFileLines ls read.window_seconds read.clients.items)) lines c.read_lines.ensures.file in
    file

pub returns-clause-served : goal.returns-clause-served
returns-clause-served c =
    let lines = read_parts c.args.text.now c.as_slice-parts.result.now c.line_count.result (ap (map (λ (part : Bor (List ℕ)). part.now)) c.as_slice-parts.ensures.value ∙ c.in_ok-between_line_feeds.ensures) c.line_count.ensures.lines in
    let file = subst (λ ls. IfOk c.read_lines.result (λ read. AreFileLines ls read.window_seconds read.clients.items)) lines c.read_lines.ensures.file in
    all_served (lines_of c.args.text.now) c.read_lines.result file

pub returns-clause-fault : goal.returns-clause-fault
returns-clause-fault c =
    let lines = read_parts c.args.text.now c.as_slice-parts.result.now c.line_count.result (ap (map (λ (part : Bor (List ℕ)). part.now)) c.as_slice-parts.ensures.value ∙ c.in_ok-between_line_feeds.ensures) c.line_count.ensures.lines in
    let file = subst (λ ls. IfOk c.read_lines.result (λ read. AreFileLines ls read.window_seconds read.clients.items)) lines c.read_lines.ensures.file in
    let fault = subst (λ ls. IfErr c.read_lines.result (λ told. IsFaultOf ls told)) lines c.read_lines.ensures.fault in
    fault

pub returns-clause-only_file : goal.returns-clause-only_file
returns-clause-only_file c =
    let lines = read_parts c.args.text.now c.as_slice-parts.result.now c.line_count.result (ap (map (λ (part : Bor (List ℕ)). part.now)) c.as_slice-parts.ensures.value ∙ c.in_ok-between_line_feeds.ensures) c.line_count.ensures.lines in
    let file = subst (λ ls. IfOk c.read_lines.result (λ read. AreFileLines ls read.window_seconds read.clients.items)) lines c.read_lines.ensures.file in
    let fault = subst (λ ls. IfErr c.read_lines.result (λ told. IsFaultOf ls told)) lines c.read_lines.ensures.fault in
    all_given (lines_of c.args.text.now) c.read_lines.result file fault

pub returns-clause-only_fault : goal.returns-clause-only_fault
returns-clause-only_fault c =
    let lines = read_parts c.args.text.now c.as_slice-parts.result.now c.line_count.result (ap (map (λ (part : Bor (List ℕ)). part.now)) c.as_slice-parts.ensures.value ∙ c.in_ok-between_line_feeds.ensures) c.line_count.ensures.lines in
    let file = subst (λ ls. IfOk c.read_lines.result (λ read. AreFileLines ls read.window_seconds read.clients.items)) lines c.read_lines.ensures.file in
    let fault = subst (λ ls. IfErr c.read_lines.result (λ told. IsFaultOf ls told)) lines c.read_lines.ensures.fault in
    all_told (lines_of c.args.text.now) c.read_lines.result file fault

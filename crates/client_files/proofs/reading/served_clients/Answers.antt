use Rattle.std.proofs.Common.{◌∙◌, ◌∷◌, List, ℕ, ◌+◌, Bor, sym, ap, arith, subst, map, length}
use Rattle.std.proofs.lemmas.List.{length-map}
use Rattle.std.specs.Vec.{vec_len}
use Rattle.gql_base.specs.names.Names.{first_repeated}
use Rattle.client_files.specs.declared.fault.ClientsFault.TheVariants.{BadLine}
use Rattle.client_files.specs.ClientFiles.{keys_of}
use Rattle.client_files.specs.Faults.{IsFirstFault}
use Rattle.client_files.specs.Headings.{version_line}
use Rattle.client_files.proofs.LeadingClients.{tells_repeated, tells_too_many, tells_bad, tells_none, serves, empty_count, some_count}
use Rattle.client_files.proofs.reading.served_clients.Goals as goal

pub returns-in-Some-clause-fault : goal.returns-in-Some-clause-fault
returns-in-Some-clause-fault c =
    let low = rw c.in-Some.is at (c.in_ok-at.ensures.within) in
    tells_repeated c.args.version (map (λ line. line.now) c.args.lines.now) c.in_ok-clients.clients.items c.in_ok-clients.ensures c.in-Some.at
    (omega (arith, low, ap length c.deref.ensures.value)) (sym c.in-Some.is ∙ (c.in_ok-at.ensures.place ∙ ap (λ cs. first_repeated (keys_of cs)) c.deref.ensures.value))

pub returns-then-len-gt-CLIENT_LIMIT-clause-fault : goal.returns-then-len-gt-CLIENT_LIMIT-clause-fault
returns-then-len-gt-CLIENT_LIMIT-clause-fault c =
    tells_too_many c.args.version (map (λ line. line.now) c.args.lines.now) c.in_ok-clients.clients.items c.in_ok-clients.ensures
    (omega (arith, c.if-len-gt-CLIENT_LIMIT.true, c.len.ensures, c.in_ok-clients.clients.ok.0)) (sym c.in_default.is ∙ (c.in_ok-at.ensures.place ∙ ap (λ cs. first_repeated (keys_of cs)) c.deref.ensures.value))

pub returns-then-len-lines-clause-fault : goal.returns-then-len-lines-clause-fault
returns-then-len-lines-clause-fault c = λ second seconds window.
    let none = sym c.in_default.is ∙ (c.in_ok-at.ensures.place ∙ ap (λ cs. first_repeated (keys_of cs)) c.deref.ensures.value) in
    let lines = map (λ (line : Bor (List ℕ)). line.now) c.args.lines.now in
    subst (λ n. IsFirstFault (version_line c.args.version ∷ second ∷ lines) (BadLine n)) {x = 3 + length c.in_ok-clients.clients.items} {y = 3 + c.len-then-len-lines.result} (omega (arith, c.len-then-len-lines.ensures, c.in_ok-clients.clients.ok.0))
    (tells_bad c.args.version lines c.in_ok-clients.clients.items c.in_ok-clients.ensures (omega (arith, c.if-len-gt-CLIENT_LIMIT.false, c.len.ensures, c.in_ok-clients.clients.ok.0))
    (omega (arith, c.if-len-lines.true, c.len-2.ensures, c.in_ok-clients.clients.ok.0, length-map c.args.lines.now (λ (line : Bor (List ℕ)). line.now))) none second seconds window)

pub returns-then-is_empty-clause-fault : goal.returns-then-is_empty-clause-fault
returns-then-is_empty-clause-fault c =
    tells_none c.args.version (map (λ (line : Bor (List ℕ)). line.now) c.args.lines.now) c.in_ok-clients.clients.items c.in_ok-clients.ensures
    (omega (arith, c.if-len-lines.false, c.len-2.ensures, c.in_ok-clients.clients.ok.0, length-map c.args.lines.now (λ (line : Bor (List ℕ)). line.now))) (empty_count (vec_len c.in_ok-clients.clients) (length c.in_ok-clients.clients.items) (omega (arith, c.in_ok-clients.clients.ok.0)) c.if-is_empty.ensures)

pub returns-clause-served : goal.returns-clause-served
returns-clause-served c =
    let none = sym c.in_default.is ∙ (c.in_ok-at.ensures.place ∙ ap (λ cs. first_repeated (keys_of cs)) c.deref.ensures.value) in
    serves c.args.version (map (λ (line : Bor (List ℕ)). line.now) c.args.lines.now) c.in_ok-clients.clients.items c.in_ok-clients.ensures
    (omega (arith, c.if-len-lines.false, c.len-2.ensures, c.in_ok-clients.clients.ok.0, length-map c.args.lines.now (λ (line : Bor (List ℕ)). line.now)))
    (omega (arith, c.if-len-gt-CLIENT_LIMIT.false, c.len.ensures, c.in_ok-clients.clients.ok.0)) (some_count (vec_len c.in_ok-clients.clients) (length c.in_ok-clients.clients.items) (omega (arith, c.in_ok-clients.clients.ok.0)) c.if-is_empty.ensures) none

-- A head that was found asks for what is read of it.
use Rattle.std.proofs.Common.{inl, inr, sym, ap, subst, arith, length}
use Rattle.std.proofs.lemmas.List.{length-take}
use Rattle.httparse.specs.Spans.{IsRequestAt}
use Rattle.http_front.proofs.Fronts.{refused_by, of_memory, found_at}
use Rattle.http_front.proofs.head.look_at.Goals as goal

pub returns-in-Ok-clause-exact : goal.returns-in-Ok-clause-exact
returns-in-Ok-clause-exact c =
    let found = found_at c.args.bytes.now c.find_head.new.headers c.in-Ok-Some.field-0 c.in-Ok-Some.spans c.in-Ok-Some.field-0-is c.in-Ok-Some.ensures in
    let says = c.in-Ok.ensures.head found.head (subst (λ room. IsRequestAt room c.find_head.new.headers c.in-Ok-Some.spans found.head) (sym c.front_of.ensures) found.at) in
    record { of = found.head; asks = (found.begins, says.0); passed = says.1; len = says.2 }

pub returns-in-Ok-clause-within : goal.returns-in-Ok-clause-within
returns-in-Ok-clause-within c = (c.in-Ok.ensures.within, omega (arith, c.in-Ok.ensures.len, ap length c.front_of.ensures, length-take 16384 c.args.bytes.now))

pub returns-in-Err-head_at-clause-exact : goal.returns-in-Err-head_at-clause-exact
returns-in-Err-head_at-clause-exact c =
    let found = found_at c.args.bytes.now c.find_head.new.headers c.in-Ok-Some.field-0 c.in-Ok-Some.spans c.in-Ok-Some.field-0-is c.in-Ok-Some.ensures in
    elim c.in-Err-head_at.ensures.refused [
      | inl e ↦ of_memory c.args.bytes.now _ c.in-Err-head_at.fault e
      | inr r ↦ refused_by c.args.bytes.now c.in-Err-head_at.fault r.0
          (found.head, found.begins, r.1 found.head (subst (λ room. IsRequestAt room c.find_head.new.headers c.in-Ok-Some.spans found.head) (sym c.front_of.ensures) found.at))
    ]

pub returns-in-Err-clause-exact : goal.returns-in-Err-clause-exact
returns-in-Err-clause-exact c = c.in-Err.ensures.0

pub returns-in-Err-clause-kind : goal.returns-in-Err-clause-kind
returns-in-Err-clause-kind c = λ e. c.in-Err.ensures.1.0 (cc e)

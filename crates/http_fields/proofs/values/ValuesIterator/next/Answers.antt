-- A field has the name, or is passed over.
use Rattle.std.proofs.Common.{◌∷◌, sym, ap, ◌∙◌, arith, length, drop, ◌+◌}
use Rattle.http_fields.specs.Fields.{same_in_any_case, values_of, pairs_of}
use Rattle.http_fields.proofs.Naming.{values_found, values_passed, values_over}
use Rattle.http_fields.proofs.values.ValuesIterator.next.Goals as goal

pub returns-then-is_same-clause-steps : goal.returns-then-is_same-clause-steps
returns-then-is_same-clause-steps c =
    let v = c.loop-self.self in
    sym c.loop-self.invariant
    ∙ values_found v.name.now v.fields.bytes.now v.fields.headers.now v.at _ c.loop-self-test.true (ap (λ l. same_in_any_case l v.name.now) (sym c.of.ensures) ∙ sym c.is_same.ensures ∙ c.if-is_same.true)
    ∙ ap (λ l. l ∷ values_of v.name.now (drop (v.at + 1) (pairs_of v.fields))) (sym c.of-then-is_same.ensures)

pub loop-self-preserved : goal.loop-self-preserved
loop-self-preserved c =
    let v = c.loop-self.self in
    sym (values_passed v.name.now v.fields.bytes.now v.fields.headers.now v.at _ c.loop-self-test.true (ap (λ l. same_in_any_case l v.name.now) (sym c.of.ensures) ∙ sym c.is_same.ensures ∙ c.if-is_same.false))
    ∙ c.loop-self.invariant

pub returns-clause-steps : goal.returns-clause-steps
returns-clause-steps c =
    let v = c.loop-self.self in
    let over = values_over v.name.now v.fields.bytes.now v.fields.headers.now v.at (omega (arith, c.loop-self-test.false)) in
    (sym c.loop-self.invariant ∙ over, over)

pub returns-then-is_same-clause-goes : goal.returns-then-is_same-clause-goes
returns-then-is_same-clause-goes c =
    record { on = λ _. (tt, tt, omega (arith, ap length (returns-then-is_same-clause-steps c))); keeps = tt; rests = λ _. tt }

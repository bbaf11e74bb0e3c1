-- An element ends at the first mark, or with the value.
use Rattle.std.proofs.Common.{◌≡◌, ◌+◌, ◌-◌, [], ◌∷◌, length, take, drop, rules, arith, sym, ap, ◌∙◌, add-one}
use Rattle.std.proofs.lemmas.List.{take_rest}
use Rattle.http_front.specs.Fields.{elements, elements_of_rest, elements_left}
use Rattle.http_front.proofs.Splitting.{elements_at, elements_whole}
use Rattle.http_front.proofs.values.ElementsIterator.next.Goals.{After-trimmed, After-trimmed-in-None}
use Rattle.http_front.proofs.values.ElementsIterator.next.Goals as goal

-- the element ends at the first mark
at_mark : (c : After-trimmed) → elements_left c.args.self.now ≡ c.trimmed.result.now ∷ elements c.args.self.now.mark (take (length c.in_ok-rest.rest.now - (c.in-Some.place + 1)) (drop (c.in-Some.place + 1) c.in_ok-rest.rest.now))
at_mark c =
    let rest = c.in_ok-rest.rest.now in
    let at = c.in-Some.place in
    let split = elements_at c.args.self.now.mark rest at (search rules) (search rules) (search rules) in
    let element = c.trimmed.ensures in
    ap (elements_of_rest c.args.self.now.mark) c.in_ok-rest.was ∙ split ∙ simp (take_rest, add-one, element)

at_end : (c : After-trimmed-in-None) → elements_left c.args.self.now ≡ c.trimmed-in-None.result.now ∷ []
at_end c =
    ap (elements_of_rest c.args.self.now.mark) c.in_ok-rest.was ∙ elements_whole c.args.self.now.mark c.in_ok-rest.rest.now (search rules) ∙ ap (λ x. x ∷ []) (sym c.trimmed-in-None.ensures)

pub returns-in-Some-clause-steps : goal.returns-in-Some-clause-steps
returns-in-Some-clause-steps c = at_mark c

pub returns-in-Some-clause-goes : goal.returns-in-Some-clause-goes
returns-in-Some-clause-goes c =
    record { on = λ _. (tt, tt, omega (arith, ap length (at_mark c))); keeps = tt; rests = λ _. tt }

pub returns-in-None-clause-steps : goal.returns-in-None-clause-steps
returns-in-None-clause-steps c = at_end c

pub returns-in-None-clause-goes : goal.returns-in-None-clause-goes
returns-in-None-clause-goes c =
    record { on = λ _. (tt, tt, omega (arith, ap length (at_end c))); keeps = tt; rests = λ _. tt }

use Rattle.std.proofs.Common.{◌<◌, ◌≤◌, length, get_or, map, ap, ◌∙◌, subst}
use Rattle.schema_facts.specs.Facts.{known_type, possible_types}
use Rattle.schema_facts.proofs.Listed.{listed_there, listed_past}
use Rattle.schema_facts.proofs.bodies.listed.Goals as goal

pub returns-in-Some : goal.returns-in-Some
returns-in-Some c = let h = c.in-Some.ensures.lookup in
    let types = map known_type c.args.facts.now.types.items.items in
    c.deref-in-Some.ensures.value
    ∙ listed_there (possible_types types) c.args.facts.now.possible.items types c.args.number c.in-Some.numbers.now c.args.facts.now.knows
    (subst (λ l. c.args.number < length l) c.deref.ensures.value h.3.0) (h.1 ∙ ap (λ l. get_or l c.args.number c.in-Some.numbers.now) c.deref.ensures.value)

pub returns-in-None : goal.returns-in-None
returns-in-None c =
    let types = map known_type c.args.facts.now.types.items.items in
    listed_past (possible_types types) c.args.facts.now.possible.items types c.args.number c.args.facts.now.knows
    (subst (λ l. length l ≤ c.args.number) c.deref.ensures.value c.in-None.ensures.lookup.3)

use Rattle.std.proofs.Common.{◌<◌, ◌≤◌, length, get_or, map, ap, ◌∙◌, subst}
use Rattle.schema_facts.specs.Facts.{known_type}
use Rattle.schema_facts.specs.Places.{places_of}
use Rattle.schema_facts.proofs.Listed.{listed_there, listed_past}
use Rattle.schema_facts.proofs.bodies.places_at.Goals as goal

pub returns-in-Some : goal.returns-in-Some
returns-in-Some c = let h = c.in-Some.ensures.lookup in
    c.deref-in-Some.ensures.value
    ∙ listed_there places_of c.args.facts.now.places.items (map known_type c.args.facts.now.types.items.items) c.args.number c.in-Some.places.now c.args.facts.now.finds
    (subst (λ l. c.args.number < length l) c.deref.ensures.value h.3.0) (h.1 ∙ ap (λ l. get_or l c.args.number c.in-Some.places.now) c.deref.ensures.value)

pub returns-in-None : goal.returns-in-None
returns-in-None c =
    listed_past places_of c.args.facts.now.places.items (map known_type c.args.facts.now.types.items.items) c.args.number c.args.facts.now.finds
    (subst (λ l. length l ≤ c.args.number) c.deref.ensures.value c.in-None.ensures.lookup.3)

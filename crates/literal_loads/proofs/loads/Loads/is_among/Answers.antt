use Rattle.std.proofs.Common.{sym, ap, ◌∙◌}
use Rattle.gql_base.specs.names.Names.{first_of_name, has_name}
use Rattle.literal_loads.specs.Sums.{placed_name}
use Rattle.literal_loads.specs.KnownInputs.{scale_of, placed_in, placed_seen}
use Rattle.literal_loads.proofs.SameInputs.{written_too, default_among}
use Rattle.literal_loads.proofs.loads.Loads.is_among.Goals as goal

pub returns-then-has : goal.returns-then-has
returns-then-has c = λ same.
    let placed = placed_in c.args.known.now in
    let written = c.args.written.now.items.now in
    let found = ap (first_of_name placed_name placed) (sym c.as_str-name.ensures) ∙ sym c.in-Some.ensures.found in
    written_too (scale_of c.args.self.now.of) placed c.args.other.now (placed_seen c.in-Some.placed.now) found written (ap (has_name (λ b. b.name.text) written) (sym c.as_str-name.ensures) ∙ sym c.if-has.ensures)

pub returns-else-has : goal.returns-else-has
returns-else-has c = λ same.
    let placed = placed_in c.args.known.now in
    let found = ap (first_of_name placed_name placed) (sym c.as_str-name.ensures) ∙ sym c.in-Some.ensures.found in
    default_among (scale_of c.args.self.now.of) placed c.args.other.now (placed_seen c.in-Some.placed.now) found c.args.written.now.items.now (c.is_default.ensures same)

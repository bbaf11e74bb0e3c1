use Rattle.std.proofs.Common.{length, sym, ap, ◌∙◌, map}
use Rattle.std.proofs.lemmas.List.{length-map}
use Rattle.std.specs.Str.{bytes_eq}
use Rattle.schema_rules.proofs.Namings.{position_view}
use Rattle.schema_facts.specs.Facts.{known_name, known_type, or_past}
use Rattle.schema_facts.proofs.types.number_in.Goals as goal

pub returns-in-Some : goal.returns-in-Some
returns-in-Some c =
    ap (or_past (map known_type c.args.types.now.items.items)) (sym c.in-Some.is ∙ c.position.ensures.place ∙ position_view known_type (λ k. bytes_eq (known_name k) c.args.name.now) 0 c.args.types.now.items.items)

pub returns-in-None : goal.returns-in-None
returns-in-None c =
    ap length c.items.ensures ∙ sym (length-map c.args.types.now.items.items known_type)
    ∙ ap (or_past (map known_type c.args.types.now.items.items)) (sym c.in-None.is ∙ c.position.ensures.place ∙ position_view known_type (λ k. bytes_eq (known_name k) c.args.name.now) 0 c.args.types.now.items.items)

use Rattle.std.proofs.Common.{◌∙◌, ◌≡◌, ◌<◌, sym, subst, length, get_or, ltb, List}
use Rattle.std.specs.Prelude.{IfSome, is_some}
use Rattle.schema_model.specs.declared.entries.TypeEntry.{TypeEntry}
use Rattle.schema_model.specs.declared.marks.TypeList.{TypeList}
use Rattle.schema_model.proofs.AppliesLaws.{applies_beside}
use Rattle.schema_model.proofs.schema.Schema.possible_beside.Goals as goal

pub returns-then-is_object : goal.returns-then-is_object
returns-then-is_object c =
    let entry = c.in-Some.ensures.lookup in
    let found = c.get-then-is_object.ensures.lookup in
    let lists = c.deref.ensures.value in
    applies_beside c.args.self.now c.args.condition.number c.args.object.number c.get-then-is_object.result c.in-Some.entry.now
    (subst (λ (ls : List TypeList). is_some c.get-then-is_object.result ≡ ltb c.args.condition.number (length ls)) lists found.0)
    (subst (λ (ls : List TypeList). IfSome c.get-then-is_object.result (λ l. l.now ≡ get_or ls c.args.condition.number l.now)) lists found.1)
    (subst (λ (ts : List TypeEntry). c.args.object.number < length ts) c.items.ensures entry.3.0)
    (subst (λ (ts : List TypeEntry). c.in-Some.entry.now ≡ get_or ts c.args.object.number c.in-Some.entry.now) c.items.ensures entry.1)
    (sym c.is_object.ensures ∙ c.if-is_object.true)

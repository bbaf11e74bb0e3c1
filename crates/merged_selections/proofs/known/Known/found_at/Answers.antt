use Rattle.std.proofs.Common.{◌≡◌, Some, List, refl, subst}
use Rattle.std.specs.List.{slice_get}
use Rattle.std.proofs.lemmas.Option.{slice_get_read}
use Rattle.schema_model.specs.SchemaViews.{schema_data}
use Rattle.collected_fields.specs.declared.collected.Group.{Group}
use Rattle.merged_selections.specs.declared.known.KnownGroups.{KnownGroups}
use Rattle.merged_selections.specs.Again.{HaveSome}
use Rattle.merged_selections.proofs.known.Known.found_at.Goals as goal

pub returns-in_ok-looked-in-Some : goal.returns-in_ok-looked-in-Some
returns-in_ok-looked-in-Some c = let found = c.in-Some.ensures.lookup in record {
  at = c.args.at;
  one = c.in-Some.one.now;
  there = subst (λ (ks : List KnownGroups). slice_get ks c.args.at ≡ Some c.in-Some.one.now) c.deref.ensures.value (slice_get_read c.deref.result.now _ c.args.at c.in-Some.one.now refl found.3.0 found.1);
  for_it = c.is_for.ensures c.if-is_for.true;
  some = subst (λ (gs : List Group). HaveSome (schema_data c.args.schema.now) gs c.in_ok-groups-in-Some.groups.items) c.as_slice.ensures.value c.in_ok-groups-in-Some.ensures;
  looked = c.in_ok-looked-in-Some.ensures;
}

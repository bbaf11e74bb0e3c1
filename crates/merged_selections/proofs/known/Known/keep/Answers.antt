use Rattle.std.proofs.Common.{List, ap, sym, subst}
use Rattle.schema_model.specs.SchemaViews.{schema_data}
use Rattle.collected_fields.specs.declared.planning.Planning.{Planning}
use Rattle.collected_fields.specs.declared.collected.Group.{Group}
use Rattle.collected_fields.specs.Views.{setting_of_planning}
use Rattle.merged_selections.specs.NodeParts.{handed_data}
use Rattle.merged_selections.specs.Again.{AreLooked, name_in}
use Rattle.merged_selections.proofs.MetAgain.{may_shorter}
use Rattle.merged_selections.proofs.known.Known.keep.Goals as goal

pub returns-clause-known : goal.returns-clause-known
returns-clause-known c = λ k planned kept may known. c.put.ensures k (record {
  groups = may_shorter k (schema_data c.args.planning.now.schema.now) c.args.of.number c.args.lists.now c.in_ok-lists.lists.items (name_in c.args.spread) c.args.groups.now c.in_ok-groups.groups.items (ap (λ (pl : Planning). schema_data pl.schema.now) planned) c.in_ok-lists.ensures c.in_ok-groups.ensures may;
  looked = subst (λ (pl : Planning). AreLooked (setting_of_planning pl) c.args.of.number (handed_data c.args.handed) c.in_ok-groups.groups.items c.in_ok-looked.looked.items) (sym planned)
      (subst (λ (gs : List Group). AreLooked (setting_of_planning c.args.planning.now) c.args.of.number (handed_data c.args.handed) gs c.in_ok-looked.looked.items) c.as_slice.ensures.value (c.in_ok-looked.ensures.looked kept));
}) (c.is_wanted.ensures k known)

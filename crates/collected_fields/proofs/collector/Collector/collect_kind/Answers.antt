use Rattle.std.proofs.Common.{refl, subst}
use Rattle.std.proofs.lemmas.Result.{IfOk-weaker}
use Rattle.schema_model.specs.SchemaViews.{schema_data}
use Rattle.collected_fields.specs.Grouping.{fields_grouped}
use Rattle.collected_fields.specs.Lists.{AllFinish}
use Rattle.collected_fields.proofs.GrowingLaws.{same_reached, grows_same, grows_more, grows_again, gives_groups}
use Rattle.collected_fields.proofs.collector.Collector.collect_kind.Goals as goal

pub returns-in_err-fields-clause-grows : goal.returns-in_err-fields-clause-grows
returns-in_err-fields-clause-grows c = grows_same c.args.self.now c.fields_by_key.new.self c.fields_by_key.ensures.tables c.fields_by_key.ensures.joins c.fields_by_key.ensures.kept (same_reached c.args.self.now c.fields_by_key.new.self c.fields_by_key.ensures.reaches)

pub returns-in_err-note_many-clause-grows : goal.returns-in_err-note_many-clause-grows
returns-in_err-note_many-clause-grows c = grows_again c.args.self.now c.fields_by_key.new.self c.note_many.new.self (grows_same c.args.self.now c.fields_by_key.new.self c.fields_by_key.ensures.tables c.fields_by_key.ensures.joins c.fields_by_key.ensures.kept (same_reached c.args.self.now c.fields_by_key.new.self c.fields_by_key.ensures.reaches)) c.note_many.ensures

pub returns-clause-grows : goal.returns-clause-grows
returns-clause-grows c = grows_again c.args.self.now c.note_many.new.self _ (grows_again c.args.self.now c.fields_by_key.new.self c.note_many.new.self (grows_same c.args.self.now c.fields_by_key.new.self c.fields_by_key.ensures.tables c.fields_by_key.ensures.joins c.fields_by_key.ensures.kept (same_reached c.args.self.now c.fields_by_key.new.self c.fields_by_key.ensures.reaches)) c.note_many.ensures)
    (grows_more c.note_many.new.self _ refl refl refl c.finish.ensures.count c.finish.ensures.more)

pub returns-clause-gives : goal.returns-clause-gives
returns-clause-gives c = IfOk-weaker c.finish.result _ _ (λ groups finished. gives_groups c.args.self.now c.note_many.new.self _ c.args.of.number c.args.numbers.now (fields_grouped c.in_ok-fields.fields) groups.items c.in_ok-fields.ensures.found
    (grows_again c.args.self.now c.fields_by_key.new.self c.note_many.new.self (grows_same c.args.self.now c.fields_by_key.new.self c.fields_by_key.ensures.tables c.fields_by_key.ensures.joins c.fields_by_key.ensures.kept (same_reached c.args.self.now c.fields_by_key.new.self c.fields_by_key.ensures.reaches)) c.note_many.ensures)
    (grows_more c.note_many.new.self _ refl refl refl c.finish.ensures.count c.finish.ensures.more)
    (subst (λ fs. AllFinish (schema_data c.args.self.now.tables.planning.schema.now) c.note_many.new.self.joins c.finish.new.joins fs groups.items) c.fields.ensures finished)) c.finish.ensures.finished

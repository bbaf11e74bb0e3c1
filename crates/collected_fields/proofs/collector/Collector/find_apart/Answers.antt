use Rattle.std.proofs.Common.{refl, subst, map, option_map}
use Rattle.schema_model.specs.SchemaViews.{schema_data}
use Rattle.collected_fields.specs.Walks.{numbered_group}
use Rattle.collected_fields.specs.Grouping.{fields_grouped}
use Rattle.collected_fields.specs.Lists.{AllShorten, MayShortenAll}
use Rattle.collected_fields.proofs.GrowingLaws.{same_reached, grows_same, found_grows, apart_found}
use Rattle.collected_fields.proofs.collector.Collector.find_apart.Goals as goal

pub returns-in_err-fields : goal.returns-in_err-fields
returns-in_err-fields c = λ there. grows_same c.args.self.now c.fields_by_key.new.self c.fields_by_key.ensures.tables c.fields_by_key.ensures.joins c.fields_by_key.ensures.kept (same_reached c.args.self.now c.fields_by_key.new.self c.fields_by_key.ensures.reaches)

pub returns-then-not-are_many : goal.returns-then-not-are_many
returns-then-not-are_many c = λ there. grows_same c.args.self.now c.fields_by_key.new.self c.fields_by_key.ensures.tables c.fields_by_key.ensures.joins c.fields_by_key.ensures.kept (same_reached c.args.self.now c.fields_by_key.new.self c.fields_by_key.ensures.reaches)

pub returns-in_err-short : goal.returns-in_err-short
returns-in_err-short c = λ there. found_grows c.args.self.now c.fields_by_key.new.self _ c.fields_by_key.ensures.tables c.fields_by_key.ensures.joins c.fields_by_key.ensures.kept c.fields_by_key.ensures.reaches refl refl refl c.shortened_by_key.ensures.count c.shortened_by_key.ensures.more

pub returns-in-Some : goal.returns-in-Some
returns-in-Some c = λ there.
    apart_found c.args.self.now c.fields_by_key.new.self _ c.args.of.number c.args.number (fields_grouped c.in_ok-fields.fields) (numbered_group c.in-Some.short) c.fields_by_key.ensures.tables c.fields_by_key.ensures.joins c.fields_by_key.ensures.kept refl c.fields_by_key.ensures.reaches c.shortened_by_key.ensures.count c.shortened_by_key.ensures.more
    c.in_ok-fields.ensures.found
    (subst (λ fs. AllShorten (schema_data c.args.self.now.tables.planning.schema.now) c.fields_by_key.new.self.joins c.shortened_by_key.new.joins fs (numbered_group c.in-Some.short)) c.fields.ensures
    (subst (λ o. MayShortenAll (schema_data c.args.self.now.tables.planning.schema.now) c.fields_by_key.new.self.joins c.shortened_by_key.new.joins (map numbered_group c.fields.result.now) (option_map numbered_group o)) c.in-Some.is c.in_ok-short.ensures.shortened))
    c.keep.ensures there

pub returns : goal.returns
returns c = λ there. found_grows c.args.self.now c.fields_by_key.new.self _ c.fields_by_key.ensures.tables c.fields_by_key.ensures.joins c.fields_by_key.ensures.kept c.fields_by_key.ensures.reaches refl refl refl c.shortened_by_key.ensures.count c.shortened_by_key.ensures.more

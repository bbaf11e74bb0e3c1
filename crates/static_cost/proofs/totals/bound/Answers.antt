use Rattle.std.proofs.Common.{refl}
use Rattle.response_model.specs.Cost.{types, fields}
use Rattle.plan_table.specs.TableBounds.{holds_in}
use Rattle.static_cost.proofs.Bounds.{is_bound, same_bound, names, names_one, not_within}
use Rattle.static_cost.proofs.TablePasses.{greatest_found}
use Rattle.static_cost.proofs.totals.bound.Goals as goal

pub returns-then-types-gt-CAP-clause-found : goal.returns-then-types-gt-CAP-clause-found
returns-then-types-gt-CAP-clause-found c tree of bound is within =
    let p = c.args.of.now in
    absurd (not_within c.greatest_cost-types.result c.greatest_cost-fields.result bound c.then-types-gt-CAP.either
    (same_bound (holds_in p) types tree c.greatest_cost-types.result bound.types of.1 (greatest_found types p tree c.greatest_cost-types.result of.0 c.greatest_cost-types.ensures) is.of_types within.of_types)
    (same_bound (holds_in p) fields tree c.greatest_cost-fields.result bound.fields of.1 (greatest_found fields p tree c.greatest_cost-fields.result of.0 c.greatest_cost-fields.ensures) is.of_fields within.of_fields) within)

pub returns-then-types-gt-CAP-clause-too_costly : goal.returns-then-types-gt-CAP-clause-too_costly
returns-then-types-gt-CAP-clause-too_costly c tree of = record {
  of_types = names (holds_in c.args.of.now) types tree c.greatest_cost-types.result of.1 (greatest_found types c.args.of.now tree c.greatest_cost-types.result of.0 c.greatest_cost-types.ensures);
  of_fields = names (holds_in c.args.of.now) fields tree c.greatest_cost-fields.result of.1 (greatest_found fields c.args.of.now tree c.greatest_cost-fields.result of.0 c.greatest_cost-fields.ensures);
  some = names_one c.greatest_cost-types.result c.greatest_cost-fields.result c.then-types-gt-CAP.either;
}

pub returns-clause-bound : goal.returns-clause-bound
returns-clause-bound c tree of = record {
  of_types = is_bound (holds_in c.args.of.now) types tree c.greatest_cost-types.result of.1 (greatest_found types c.args.of.now tree c.greatest_cost-types.result of.0 c.greatest_cost-types.ensures) c.if-types-gt-CAP.false;
  of_fields = is_bound (holds_in c.args.of.now) fields tree c.greatest_cost-fields.result of.1 (greatest_found fields c.args.of.now tree c.greatest_cost-fields.result of.0 c.greatest_cost-fields.ensures) c.if-fields-gt-CAP.false;
}

pub returns-clause-found : goal.returns-clause-found
returns-clause-found c tree of bound is within =
    let p = c.args.of.now in
    rw (
      same_bound (holds_in p) types tree c.greatest_cost-types.result bound.types of.1 (greatest_found types p tree c.greatest_cost-types.result of.0 c.greatest_cost-types.ensures) is.of_types within.of_types,
      same_bound (holds_in p) fields tree c.greatest_cost-fields.result bound.fields of.1 (greatest_found fields p tree c.greatest_cost-fields.result of.0 c.greatest_cost-fields.ensures) is.of_fields within.of_fields,
    ) refl

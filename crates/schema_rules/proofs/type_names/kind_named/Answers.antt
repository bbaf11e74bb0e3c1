use Rattle.std.proofs.Common.{sym, ap}
use Rattle.std.specs.Str.{bytes_eq}
use Rattle.schema_rules.specs.TypeNames.{kind_or_scalar}
use Rattle.schema_rules.specs.Views.{named_kind}
use Rattle.schema_rules.proofs.Namings.{seen_some, seen_none}
use Rattle.schema_rules.proofs.type_names.kind_named.Goals as goal

pub returns-in-Some : goal.returns-in-Some
returns-in-Some c = ap kind_or_scalar (sym (seen_some named_kind (λ t. bytes_eq t.name c.args.name.now) c.args.types.now.items.now c.first_named.result c.in-Some.found c.first_named.ensures c.in-Some.is))

pub returns-in-None : goal.returns-in-None
returns-in-None c = ap kind_or_scalar (sym (seen_none named_kind (λ t. bytes_eq t.name c.args.name.now) c.args.types.now.items.now c.first_named.result c.first_named.ensures c.in-None.is))

use Rattle.std.proofs.Common.{◌∙◌, map}
use Rattle.std.specs.Prelude.{codes}
use Rattle.gql_base.specs.parts.Trees.{directive_tree}
use Rattle.schema_facts.proofs.Placed.{found_there}
use Rattle.schema_facts.proofs.deprecations.deprecation_at.Goals as goal

pub returns : goal.returns
returns c = c.arguments_at.ensures ∙ found_there (codes "deprecated") (map directive_tree c.args.directives.now) c.args.place c.requires

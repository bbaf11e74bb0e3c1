-- Schemas with the weights that their cost directives give.
use Rattle.std.proofs.Common.{◌≡◌, ℕ, List, ap, subst}
use Rattle.schema_model.specs.declared.schema.Schema.{Schema}
use Rattle.cost_directives.specs.declared.weights.Weights.{Weights}
use Rattle.cost_directives.specs.Weights.{WeightsData}
use Rattle.command_words.specs.declared.command.TheConstants.{UNDECLARED}
use Rattle.command_outcomes.specs.Check.{HoldsWeighed, HoldsWith}

pub weighed_held : (bytes text : List ℕ) (schema : Schema) (weights : Weights) → text ≡ bytes → HoldsWith text UNDECLARED schema weights → HoldsWeighed bytes schema
weighed_held bytes text schema weights same held = subst (λ b. HoldsWeighed b schema) same (held.0, (weights, held.1))

-- a schema with its weights passes every test, whatever the size of lists that declare none
pub weighed : (bytes : List ℕ) (undeclared : ℕ) (schema : Schema) (weights : Weights) → HoldsWith bytes undeclared schema weights → HoldsWeighed bytes schema
weighed bytes undeclared schema weights held =
    (held.0, (record weights { undeclared = UNDECLARED }, (held.1.0, ap (λ (w : WeightsData). record w { undeclared = UNDECLARED }) held.1.1)))

-- What is known of a schema, by which operations that ask for it are answered.
use Rattle.std.specs.Prelude.{◌≡◌, ℕ, List, None}
use Rattle.schema_facts.specs.Facts.{AreFacts}
use Rattle.schema_facts.specs.FactsViews.{facts_data}
use Rattle.local_introspection.specs.declared.facts.Facts.{Facts}
use Rattle.local_introspection.specs.LocalRequests.{IsMade}
use Rattle.command_outcomes.specs.Check.{OfDefinitions}

-- They are what is known of the schema that the text holds. The text of an answer may have any length.
pub record AreKnownOf (text : List ℕ) (facts : Facts) : Type 0 where
  pub known : OfDefinitions text (λ definitions. AreFacts definitions (facts_data facts.known))
  pub made : IsMade facts
  pub most : facts.most ≡ None

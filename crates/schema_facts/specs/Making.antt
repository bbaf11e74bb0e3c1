-- What serves proofs: what is told of a text before its definitions are taken apart.
use Rattle.std.specs.Prelude.{◌≡◌, ℕ, List, [], Option, None, Some, codes, slice_get}
use Rattle.gql_base.specs.declared.parts.trees.OperationKind.TheVariants.{Query, Mutation, Subscription}
use Rattle.schema_reader.specs.Schemas.{DefinitionTree}
use Rattle.schema_rules.specs.Items.{items_of}
use Rattle.schema_facts.specs.declared.making.Told.{Told}
use Rattle.schema_facts.specs.Facts.{KnownTree, FactsData, root_in, is_mentioned, possible_types}
use Rattle.schema_facts.specs.Places.{places_of}
use Rattle.schema_facts.specs.Shown.{shown_of}

pub record IsTold (text : List DefinitionTree) (told : Told) : Type 0 where
  pub query : told.query ≡ root_in text Query
  pub mutation : told.mutation ≡ root_in text Mutation
  pub subscription : told.subscription ≡ root_in text Subscription
  pub int : told.int ≡ is_mentioned (codes "Int") (items_of text)
  pub id : told.id ≡ is_mentioned (codes "ID") (items_of text)

abbrev pub list_of : (KnownTree → List ℕ) → Option KnownTree → List ℕ
list_of of None = []
list_of of (Some t) = of t

-- the possible types of the type of a number
abbrev pub listed : FactsData → ℕ → List ℕ
listed f number = list_of (possible_types f.types) (slice_get f.types number)

-- the numbers of what isn't deprecated of the type of a number
abbrev pub shown_at : FactsData → ℕ → List ℕ
shown_at f number = list_of shown_of (slice_get f.types number)

-- the places that are held of the type of a number
abbrev pub places_at : FactsData → ℕ → List ℕ
places_at f number = list_of places_of (slice_get f.types number)

-- What a class tells of the names of the fields at the root of a query.
use Rattle.std.specs.Prelude.{◌≡◌, ◌⊎◌, ℕ, List, ◌∷◌, ◌++◌, Some, codes}
use Rattle.std.specs.List.{AllByRecursion}
use Rattle.gql_base.specs.ways.Reading.{Identifier}
use Rattle.gql_base.specs.declared.parts.trees.OperationKind.TheVariants.{Query}
use Rattle.document_reader.specs.declared.trees.Operation.{Operation}
use Rattle.document_reader.specs.declared.trees.Definition.{Definition}
use Rattle.document_rules.specs.Parts.{operation_at}
use Rattle.document_rules.specs.Sites.{typename}
use Rattle.operation_class.specs.declared.classes.Class.{Class}
use Rattle.operation_class.specs.declared.classes.Class.TheVariants.{Upstream, Local, Mixed}

-- This query is the operation at the place.
abbrev pub IsQueryAt : List Definition → ℕ → Operation → Type 0
IsQueryAt definitions place o = (operation_at definitions place ≡ Some o) × (o.kind ≡ Query)

-- a field that asks for the schema
abbrev pub AsksForSchema : Identifier → Type 0
AsksForSchema name = (name.0 ≡ codes "__schema") ⊎ (name.0 ≡ codes "__type")

-- a field that may stand beside such a one
abbrev pub MayStandBeside : Identifier → Type 0
MayStandBeside name = AsksForSchema name ⊎ (name.0 ≡ typename)

-- one of the names, with those before it and those behind it
pub record OneOf (names : List Identifier) : Type 0 where
  pub before : List Identifier
  pub name : Identifier
  pub behind : List Identifier
  pub are : names ≡ before ++ (name ∷ behind)

-- Upstream: no field asks for the schema. Local: one does, and all others may stand beside it. Mixed: one does, and the name of
-- the first that may not begins at the offset.
abbrev pub Tells : List Identifier → Class → Type 0
Tells names Upstream = AllByRecursion (λ name. AsksForSchema name → ⊥) names
Tells names Local = ((x : OneOf names) × AsksForSchema x.name) × AllByRecursion MayStandBeside names
Tells names (Mixed at) =
    ((x : OneOf names) × AsksForSchema x.name) × (x : OneOf names) × AllByRecursion MayStandBeside x.before × (MayStandBeside x.name → ⊥) × (x.name.1 ≡ at)

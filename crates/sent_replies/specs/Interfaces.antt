-- What the types of a schema keep of their interfaces and unions (GraphQL October 2021, 3.6 to 3.8).
use Rattle.std.specs.Prelude.{◌≡◌, ◌⊎◌, ℕ, nat_eq, List, true, None, Some}
use Rattle.std.specs.List.{list_any}
use Rattle.schema_rules.specs.declared.kind.Kind.TheVariants.{Interface, Union}
use Rattle.schema_model.specs.SchemaData.{SchemaData, type_at, field_named}
use Rattle.document_rules.specs.Sites.{type_of_field}

module _ (s : SchemaData) where
  -- The type lists the other as an interface that it implements.
  abbrev pub Implements : ℕ → ℕ → Type 0
  Implements T I = list_any (nat_eq I) (type_at s T).interfaces ≡ true

  abbrev pub IsMember : ℕ → ℕ → Type 0
  IsMember T U = list_any (nat_eq T) (type_at s U).members ≡ true

  -- A value of the one type is one of the other: they are the same, or it implements the other, or is a member of it.
  abbrev pub IsNarrower : ℕ → ℕ → Type 0
  IsNarrower own wanted = (own ≡ wanted) ⊎ (Implements own wanted ⊎ IsMember own wanted)

  -- The type has a field of this name that returns what the other field does, or a narrower type.
  abbrev pub HasField : ℕ → List ℕ → ℕ → Type 0
  HasField T name wanted = (own : ℕ) × (field_named s T name ≡ Some own) × IsNarrower (type_of_field s own) (type_of_field s wanted)

  -- Interfaces and unions are what they should be, and a type has the interfaces and the fields of its interfaces.
  pub record KeepsInterfaces : Type 0 where
    pub are_interfaces : (T I : ℕ) → Implements T I → (type_at s I).kind ≡ Interface
    pub are_unions : (T U : ℕ) → IsMember T U → (type_at s U).kind ≡ Union
    pub unions_have_no_field : (U : ℕ) (name : List ℕ) → (type_at s U).kind ≡ Union → field_named s U name ≡ None
    pub unions_implement_none : (U I : ℕ) → (type_at s U).kind ≡ Union → Implements U I → ⊥
    pub interfaces_above : (T I J : ℕ) → Implements T I → Implements I J → Implements T J
    pub fields : (T I : ℕ) (name : List ℕ) (wanted : ℕ) → Implements T I → field_named s I name ≡ Some wanted → HasField T name wanted

-- What is asked of the schema of schemas: each node is one of its fields, as its tables say.
use Rattle.std.specs.Prelude.{◌≡◌, ℕ, List, true, Option, Some, None}
use Rattle.serde_json.specs.Data.{Data, string}
use Rattle.cost_num.specs.declared.TheConstants.{UNIT}
use Rattle.response_model.specs.Plan.{Selected, LeafType, type_name}
use Rattle.schema_model.specs.Arguments.{ArgData}
use Rattle.schema_facts.specs.declared.table.What.{What}
use Rattle.meta_schema.specs.PassedOn.{Asked, no_field, field_then, AskedBelow, of_leaf, of_objects, of_nothing, argument_kept}
use Rattle.meta_schema.specs.MetaTypes.{weight_of}
use Rattle.meta_schema.specs.MetaForms.{form_of, below_of, leaf_type_of, is_of, meta_name}
use Rattle.meta_schema.specs.Fields.{what_asked}

-- a field of the object type T, with its form and its weight
pub record IsFieldNode (T : ℕ) (s : Selected) (w : What) : Type 0 where
  pub of : is_of T w ≡ true
  pub form : s.form ≡ form_of T w
  pub weight : s.weight ≡ weight_of w
  pub arguments : s.arguments ≡ 0

-- In these `place` says where a name stands among the names of types, and `query` is the name of the type of queries.
module _ (place : List ℕ → Option ℕ) (query : List ℕ) where
  -- a leaf of the type that the field returns, where `__typename` is the name of the type T
  pub record IsMetaLeaf (T : ℕ) (w : What) (type : LeafType) (weight : ℕ) (fill : Data) : Type 0 where
    pub alone : below_of w ≡ None
    pub of : type ≡ leaf_type_of w
    pub weightless : weight ≡ 0
    pub named : type ≡ type_name → fill ≡ string (meta_name query T)

  abbrev pub what_in : Selected → List ArgData → What
  what_in s arguments = what_asked s.field (argument_kept place arguments)

  abbrev mutual
    -- asked of objects of the type T
    pub AreMetaFields : ℕ → Asked → Type 0
    AreMetaFields T no_field = Unit {0}
    AreMetaFields T (field_then s arguments below others) = IsFieldNode T s (what_in s arguments) × IsMetaBelow T (what_in s arguments) below × AreMetaFields T others

    -- below a field of the type T
    pub IsMetaBelow : ℕ → What → AskedBelow → Type 0
    IsMetaBelow T w (of_leaf type weight fill) = IsMetaLeaf T w type weight fill
    IsMetaBelow T w (of_objects U weight fields) = (below_of w ≡ Some U) × (weight ≡ UNIT) × AreMetaFields U fields
    IsMetaBelow T w of_nothing = ⊥

  -- at the root
  abbrev pub IsMetaRoot : AskedBelow → Type 0
  IsMetaRoot (of_leaf type weight fill) = ⊥
  IsMetaRoot (of_objects T weight fields) = (T ≡ 0) × (weight ≡ UNIT) × AreMetaFields T fields
  IsMetaRoot of_nothing = ⊥

-- What leaves hold.
use Rattle.std.proofs.Common.{◌≡◌, ℕ, Bool, refl, ap, ◌∙◌}
use Rattle.serde_json.specs.Data.{Data}
use Rattle.input_values.specs.coercion.Kinds.{scalar_kind}
use Rattle.input_values.specs.declared.inputs.types.InputKind.{InputKind}
use Rattle.schema_rules.specs.declared.kind.Kind.{Kind}
use Rattle.schema_rules.specs.declared.kind.Kind.TheVariants.{Scalar, Object, Interface, Union, Enum, Input}
use Rattle.schema_model.specs.SchemaData.{TypeData, SchemaData, type_at}
use Rattle.plan_model.specs.SelectedFields.{scalar_holds, enum_holds, holds_by, holds}

pub enum_held : (s : SchemaData) (of : ℕ) (d : Data) (b : Bool) → Enum ≡ (type_at s of).kind → b ≡ enum_holds (type_at s of).values d → b ≡ holds s of d
unfolding holds
enum_held s of d b is told = told ∙ ap (λ (k : Kind). holds_by k (type_at s of) d) is

by_scalar : (kind : Kind) (t : TypeData) (d : Data) → (kind ≡ Enum → ⊥) → scalar_holds (scalar_kind t.lax t.name) d ≡ holds_by kind t d
by_scalar Enum t d other = absurd (other refl)
by_scalar Scalar t d other = refl
by_scalar Object t d other = refl
by_scalar Interface t d other = refl
by_scalar Union t d other = refl
by_scalar Input t d other = refl

pub scalar_held : (s : SchemaData) (of : ℕ) (d : Data) (b : Bool) (kind : InputKind) → ((type_at s of).kind ≡ Enum → ⊥) → kind ≡ scalar_kind (type_at s of).lax (type_at s of).name → b ≡ scalar_holds kind d → b ≡ holds s of d
unfolding holds
scalar_held s of d b kind other same told = told ∙ ap (λ (k : InputKind). scalar_holds k d) same ∙ by_scalar (type_at s of).kind (type_at s of) d other

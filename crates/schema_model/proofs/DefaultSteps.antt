-- The test of defaults, after all others.
use Rattle.std.proofs.Common.{◌≡◌, ℕ, Bool, List, None, Result, Ok, Err}
use Rattle.input_values.specs.coercion.Forms.{InputForm}
use Rattle.input_values.specs.defaults.Drafts.{AreFilled}
use Rattle.schema_rules.specs.Items.{ItemTree}
use Rattle.schema_rules.specs.TypeNames.{NamedKind}
use Rattle.schema_model.specs.Drafts.{TypeDraft}
use Rattle.schema_model.specs.Defaults.{all_asked}
use Rattle.schema_model.specs.declared.schema.Schema.{Schema}
use Rattle.schema_model.specs.declared.fault.SchemaFault.{SchemaFault}
use Rattle.schema_model.specs.declared.fault.SchemaFault.TheVariants.{TooMany, Repeated, Reserved, UnknownType, NoQuery, WrongKind, FloatScalar, NestedList, EmptyType, NotImplemented, BadDirective, BadDefault, Memory}
use Rattle.schema_model.specs.Faults.{IsFault, fault_if, EndsWith, FailsIf, BuildsIf}

-- another test than that of defaults fails
pub fails : (refused : Bool) (types : List NamedKind) (drafts : List TypeDraft) (items : List ItemTree) (fault : SchemaFault) → IsFault fault (fault_if refused types drafts items) → FailsIf refused types drafts items fault
fails refused types drafts items (TooMany counted) is = is
fails refused types drafts items (Repeated place) is = is
fails refused types drafts items (Reserved place) is = is
fails refused types drafts items (UnknownType name) is = is
fails refused types drafts items NoQuery is = is
fails refused types drafts items (WrongKind place) is = is
fails refused types drafts items (FloatScalar place) is = is
fails refused types drafts items (NestedList place) is = is
fails refused types drafts items (EmptyType name) is = is
fails refused types drafts items (NotImplemented place) is = is
fails refused types drafts items (BadDirective place) is = is
fails refused types drafts items (BadDefault place) is = absurd is
fails refused types drafts items Memory is = tt

-- no other test fails
pub ends : (refused : Bool) (types : List NamedKind) (drafts : List TypeDraft) (items : List ItemTree) (form : ℕ → InputForm) (r : Result Schema SchemaFault)
    → fault_if refused types drafts items ≡ None → AreFilled (all_asked drafts) form → EndsWith form types drafts items r → BuildsIf refused types drafts items r
ends refused types drafts items form (Ok s) none filled is = (none, (form, filled, is))
ends refused types drafts items form (Err (TooMany counted)) none filled is = absurd is
ends refused types drafts items form (Err (Repeated place)) none filled is = absurd is
ends refused types drafts items form (Err (Reserved place)) none filled is = absurd is
ends refused types drafts items form (Err (UnknownType name)) none filled is = absurd is
ends refused types drafts items form (Err NoQuery) none filled is = absurd is
ends refused types drafts items form (Err (WrongKind place)) none filled is = absurd is
ends refused types drafts items form (Err (FloatScalar place)) none filled is = absurd is
ends refused types drafts items form (Err (NestedList place)) none filled is = absurd is
ends refused types drafts items form (Err (EmptyType name)) none filled is = absurd is
ends refused types drafts items form (Err (NotImplemented place)) none filled is = absurd is
ends refused types drafts items form (Err (BadDirective place)) none filled is = absurd is
ends refused types drafts items form (Err (BadDefault place)) none filled is = (none, (form, filled, is))
ends refused types drafts items form (Err Memory) none filled is = tt

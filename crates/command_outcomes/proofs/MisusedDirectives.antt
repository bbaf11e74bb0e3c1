-- Why a file is refused whose schema uses its cost directives wrongly.
use Rattle.std.proofs.Common.{ℕ, List, Err, sym, subst}
use Rattle.std.specs.Prelude.{◌≢◌}
use Rattle.schema_model.specs.declared.schema.Schema.{Schema}
use Rattle.schema_model.specs.SchemaViews.{schema_data}
use Rattle.cost_directives.specs.declared.fault.DirectiveFault.{DirectiveFault}
use Rattle.cost_directives.specs.declared.fault.DirectiveFault.TheVariants.{Memory as NoWeights}
use Rattle.cost_directives.specs.DirectiveFaults.{Weighs}
use Rattle.command_words.specs.declared.command.TheConstants.{UNDECLARED}
use Rattle.command_outcomes.specs.declared.checked.SchemaRefusal.TheVariants.{TooLarge, NotText, NoSchemaText, Fails, Misuses}
use Rattle.command_outcomes.specs.declared.checked.CheckFault.{CheckFault}
use Rattle.command_outcomes.specs.declared.checked.CheckFault.TheVariants.{Refused, Memory as CheckMemory}
use Rattle.command_outcomes.specs.Check.{HoldsChecked, HoldsMisused, IfUnchecked, TellsDirective}

pub misused : (bytes : List ℕ) (schema : Schema) (fault : DirectiveFault) (told : CheckFault) → HoldsChecked bytes schema → Weighs (schema_data schema) UNDECLARED (Err fault) → TellsDirective fault told → IfUnchecked told bytes
misused bytes schema fault (Refused (Misuses other)) held weighs tells = subst (λ f. HoldsMisused bytes f × (f ≢ NoWeights)) (sym tells.0) ((schema, held, weighs), tells.1)
misused bytes schema fault (Refused TooLarge) held weighs tells = absurd tells
misused bytes schema fault (Refused NotText) held weighs tells = absurd tells
misused bytes schema fault (Refused (NoSchemaText other)) held weighs tells = absurd tells
misused bytes schema fault (Refused (Fails other)) held weighs tells = absurd tells
misused bytes schema fault CheckMemory held weighs tells = tt

use Rattle.std.proofs.Common.{false, [], drop}
use Rattle.gql_base.specs.names.Indexes.{at_name}
use Rattle.input_values.specs.coercion.Forms.{fields_of}
use Rattle.input_values.specs.coercion.Objects.{wrong_name}
use Rattle.input_values.specs.coercion.Sizes.{names_written}
use Rattle.input_values.proofs.CoercionSteps.Names.{GoesOn}
use Rattle.input_values.proofs.coercion.literals.wrong_name.Given as goal

-- The names so far are those that were seen, and what is left answers as the whole.
abbrev pub invariant-loop-at : goal.invariant-loop-at
invariant-loop-at g l = GoesOn (fields_of (g.T.InputTypes.forms l.types l.of.number)) (at_name l.seen) (names_written (drop l.at l.fields)) (wrong_name false (fields_of (g.T.InputTypes.forms l.types l.of.number)) [] (names_written l.fields))

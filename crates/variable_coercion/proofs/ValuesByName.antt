-- The values of variables by their names, in the program and as data.
use Rattle.std.proofs.Common.{◌≡◌, ℕ, List, [], ◌∷◌, Bool, true, false, cond, map, Option, Some, bytes_eq, refl}
use Rattle.std.proofs.Math.Path.{fun_ext}
use Rattle.gql_base.specs.names.Names.{first_of_name}
use Rattle.input_values.specs.declared.coercion.variables.VariableValue.{VariableValue}
use Rattle.input_values.specs.coercion.Literals.{value_in, values_of}
use Rattle.variable_coercion.specs.Variables.{VariableData, value_held, values_by_name}
use Rattle.variable_coercion.specs.Calls.{variable_data}

-- the first, or one of the others
front_or : (found : Bool) (v : VariableValue) (o : Option VariableValue) (p : Option VariableData) → value_in o ≡ value_held p → value_in (cond found (Some v) o) ≡ value_held (cond found (Some (variable_data v)) p)
front_or true v o p e = refl
front_or false v o p e = e

value_named : (name : List ℕ) (vs : List VariableValue) → values_of vs name ≡ values_by_name (map variable_data vs) name
value_named name [] = refl
value_named name (v ∷ vs) = front_or (bytes_eq v.name name) v (first_of_name (λ w. w.name) vs name) (first_of_name (λ w. w.name) (map variable_data vs) name) (value_named name vs)

pub same_values : (vs : List VariableValue) → values_of vs ≡ values_by_name (map variable_data vs)
same_values vs = fun_ext (λ name. value_named name vs)

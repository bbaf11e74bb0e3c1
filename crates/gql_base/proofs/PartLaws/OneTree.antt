-- Symbols are those of one value, or of one type, at most.
use Rattle.std.proofs.Common.{◌≡◌, Bool}
use Rattle.gql_base.specs.ways.Grammar.{Nested, plain}
use Rattle.gql_base.specs.parts.Values.{ValueTree, IsValue}
use Rattle.gql_base.specs.parts.TypeReferences.{TypeTree, IsType}
use Rattle.gql_base.proofs.WayLaws.OneTextFault.{one_tree}
use Rattle.gql_base.proofs.PartLaws.ValueLaws.{value_family}
use Rattle.gql_base.proofs.PartLaws.TypeLaws.{type_family}

pub one_value : (c : Bool) (t u : ValueTree) (ws vs : Nested) → IsValue c 0 t ws → IsValue c 0 u vs → plain ws ≡ plain vs → t ≡ u
one_value c t u ws vs is it same = one_tree (value_family c) t u ws vs is it same

pub one_type : (t u : TypeTree) (ws vs : Nested) → IsType 0 t ws → IsType 0 u vs → plain ws ≡ plain vs → t ≡ u
one_type t u ws vs is it same = one_tree type_family t u ws vs is it same

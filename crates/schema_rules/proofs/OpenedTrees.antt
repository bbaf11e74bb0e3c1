-- Values and types of the program, opened by one level.
use Rattle.std.proofs.Common.{◌≡◌, true, false, ap, Box, Global}
use Rattle.gql_base.specs.declared.parts.trees.Name.{Name}
use Rattle.gql_base.specs.declared.parts.trees.TypeRef.{TypeRef}
use Rattle.gql_base.specs.declared.parts.trees.TypeRef.TheBlock.{Named}
use Rattle.gql_base.specs.declared.parts.trees.TypeRef.TheViews.{ListOf, NonNull}
use Rattle.gql_base.specs.parts.Trees.{type_tree}
use Rattle.gql_base.proofs.PartLaws.ValueSteps.{list_tree, object_tree, variable_tree, integer_tree, float_tree, string_tree, boolean_tree, null_tree, enum_tree, list_type_tree, non_null_tree, named_type_tree}
use Rattle.schema_rules.specs.Items.{innermost}
use Rattle.schema_rules.specs.NestedList.{is_list, is_nested}

pub ruleset value_levels = (list_tree, object_tree, variable_tree, integer_tree, float_tree, string_tree, boolean_tree, null_tree, enum_tree)

pub innermost_named : (n : Name) → innermost (type_tree (Named n)) ≡ n.text
unfolding innermost
innermost_named n = ap innermost (named_type_tree n)

pub innermost_list : (b : Box TypeRef Global) → innermost (type_tree (ListOf b)) ≡ innermost (type_tree b.value)
unfolding innermost
innermost_list b = ap innermost (list_type_tree b)

pub innermost_non_null : (b : Box TypeRef Global) → innermost (type_tree (NonNull b)) ≡ innermost (type_tree b.value)
unfolding innermost
innermost_non_null b = ap innermost (non_null_tree b)

pub ruleset innermost_levels = (innermost_named, innermost_list, innermost_non_null)

pub list_named : (n : Name) → is_list (type_tree (Named n)) ≡ false
unfolding is_list
list_named n = ap is_list (named_type_tree n)

pub list_list : (b : Box TypeRef Global) → is_list (type_tree (ListOf b)) ≡ true
unfolding is_list
list_list b = ap is_list (list_type_tree b)

pub list_non_null : (b : Box TypeRef Global) → is_list (type_tree (NonNull b)) ≡ is_list (type_tree b.value)
unfolding is_list
list_non_null b = ap is_list (non_null_tree b)

pub ruleset list_levels = (list_named, list_list, list_non_null)

pub nested_named : (n : Name) → is_nested (type_tree (Named n)) ≡ false
unfolding is_nested
nested_named n = ap is_nested (named_type_tree n)

pub nested_list : (b : Box TypeRef Global) → is_nested (type_tree (ListOf b)) ≡ is_list (type_tree b.value)
unfolding is_nested is_list
nested_list b = ap is_nested (list_type_tree b)

pub nested_non_null : (b : Box TypeRef Global) → is_nested (type_tree (NonNull b)) ≡ is_nested (type_tree b.value)
unfolding is_nested
nested_non_null b = ap is_nested (non_null_tree b)

pub ruleset nested_levels = (nested_named, nested_list, nested_non_null)

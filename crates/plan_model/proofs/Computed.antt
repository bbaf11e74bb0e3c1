-- The examples, computed.
use Rattle.std.proofs.Common.{◌*◌, None, Some}
use Rattle.cost_num.specs.declared.TheConstants.{UNIT}
use Rattle.response_model.specs.Cost.{types, fields}
use Rattle.response_model.specs.Bound.{greatest_cost}
use Rattle.plan_model.specs.SelectedFields.{weight_at, cost_at, is_asked}
use Rattle.plan_model.specs.Visits.{planned}
use Rattle.plan_model.specs.Examples.{friends_call, search_call, planned_query}
use Rattle.std.proofs.Common.{◌≡◌, [], ◌∷◌, length, codes, refl}
use Rattle.cost_directives.specs.declared.sizes.SizeFault.TheVariants.{SlicingCount}
use Rattle.cost_directives.specs.ArgumentCosts.{value_cost}
use Rattle.cost_directives.specs.Weighing.{type_inside}
use Rattle.plan_model.specs.SelectedFields.{coerced_arguments, form_at, place_at, arguments_at, size_answer_at, size_at, hands_at, written_below}
use Rattle.plan_model.specs.Collecting.{is_included, applies_by_name, fragment_named, fields_spread, collected}
use Rattle.plan_model.specs.SameArguments.{same_value, same_items, same_fields}
use Rattle.plan_model.specs.MergingWalk.{walk_spread, walked}
use Rattle.plan_model.specs.Visits.{conflict, refused_size, visits, planned_well, faulty}
use Rattle.plan_model.specs.Examples.{field, small_setting, id_only, of_me, friends_twice, friends_and_id, search_both, left_out, names_twice, friends_path, paths_of_friends, paths_of_search, paths, answered}

pub merged_paths : paths (friends_twice 2 2) ≡ paths_of_friends
unfolding coerced_arguments form_at place_at arguments_at size_answer_at size_at hands_at written_below is_included applies_by_name fragment_named fields_spread collected same_value same_items same_fields walk_spread visits type_inside
merged_paths = refl

pub merged_well : answered (friends_twice 2 2) ≡ planned_well
unfolding coerced_arguments form_at place_at arguments_at size_answer_at size_at hands_at written_below is_included applies_by_name fragment_named fields_spread collected same_value same_items same_fields walk_spread visits type_inside
merged_well = refl

pub arguments_conflict : answered (friends_twice 2 3) ≡ faulty (friends_path, conflict)
unfolding coerced_arguments form_at place_at arguments_at size_answer_at size_at hands_at written_below is_included applies_by_name fragment_named fields_spread collected same_value same_items same_fields walk_spread visits type_inside
arguments_conflict = refl

pub names_conflict : answered friends_and_id ≡ faulty (friends_path, conflict)
unfolding coerced_arguments form_at place_at arguments_at size_answer_at size_at hands_at written_below is_included applies_by_name fragment_named fields_spread collected same_value same_items same_fields walk_spread visits type_inside
names_conflict = refl

pub needs_argument : answered (of_me (field (codes "friends") id_only ∷ [])) ≡ faulty (friends_path, refused_size (SlicingCount 0))
unfolding coerced_arguments form_at place_at arguments_at size_answer_at size_at hands_at written_below is_included applies_by_name fragment_named fields_spread collected same_value same_items same_fields walk_spread visits type_inside
needs_argument = refl

pub search_paths : paths search_both ≡ paths_of_search
unfolding coerced_arguments form_at place_at arguments_at size_answer_at size_at hands_at written_below is_included applies_by_name fragment_named fields_spread collected same_value same_items same_fields walk_spread visits type_inside
search_paths = refl

pub left_out_paths : paths left_out ≡ (codes "me" ∷ []) ∷ (codes "me" ∷ codes "__typename" ∷ []) ∷ []
unfolding coerced_arguments form_at place_at arguments_at size_answer_at size_at hands_at written_below is_included applies_by_name fragment_named fields_spread collected same_value same_items same_fields walk_spread visits type_inside
left_out_paths = refl

pub listed_twice : length (collected small_setting 1 names_twice) ≡ 2
unfolding coerced_arguments form_at place_at arguments_at size_answer_at size_at hands_at written_below is_included applies_by_name fragment_named fields_spread collected same_value same_items same_fields walk_spread visits type_inside
listed_twice = refl

pub walked_once : length (walked small_setting 1 names_twice) ≡ 1
unfolding coerced_arguments form_at place_at arguments_at size_answer_at size_at hands_at written_below is_included applies_by_name fragment_named fields_spread collected same_value same_items same_fields walk_spread visits type_inside
walked_once = refl

pub handed_size : size_at small_setting 1 (friends_call 2) (Some (codes "friends" ∷ [], 7)) ≡ Some 7
unfolding coerced_arguments form_at place_at arguments_at size_answer_at size_at hands_at written_below is_included applies_by_name fragment_named fields_spread collected same_value same_items same_fields walk_spread visits type_inside planned weight_at cost_at is_asked
handed_size = refl

pub sliced_size : size_at small_setting 1 (friends_call 2) None ≡ Some 2
unfolding coerced_arguments form_at place_at arguments_at size_answer_at size_at hands_at written_below is_included applies_by_name fragment_named fields_spread collected same_value same_items same_fields walk_spread visits type_inside planned weight_at cost_at is_asked
sliced_size = refl

pub undeclared_size : size_at small_setting 0 search_call None ≡ Some 10
unfolding coerced_arguments form_at place_at arguments_at size_answer_at size_at hands_at written_below is_included applies_by_name fragment_named fields_spread collected same_value same_items same_fields walk_spread visits type_inside planned weight_at cost_at is_asked
undeclared_size = refl

pub types_cost : greatest_cost types (planned_query (friends_twice 2 2)) ≡ 4 * UNIT
unfolding coerced_arguments form_at place_at arguments_at size_answer_at size_at hands_at written_below is_included applies_by_name fragment_named fields_spread collected same_value same_items same_fields walk_spread visits type_inside planned weight_at cost_at is_asked
types_cost = refl

pub fields_cost : greatest_cost fields (planned_query (friends_twice 2 2)) ≡ 2 * UNIT
unfolding coerced_arguments form_at place_at arguments_at size_answer_at size_at hands_at written_below is_included applies_by_name fragment_named fields_spread collected same_value same_items same_fields walk_spread visits type_inside planned weight_at cost_at is_asked value_cost
fields_cost = refl

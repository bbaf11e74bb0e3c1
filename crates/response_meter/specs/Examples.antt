-- Small replies, by which the order of the tests is read aloud and computed.
use Rattle.std.specs.Prelude.{ℕ, List, ◌++◌, codes, Option}
use Rattle.serde_json.specs.Data.{array, object as json_object, Items, Members, no_members, member}
use Rattle.response_model.specs.Examples.{name_of_type, holds_string, added_alias, search, friends_of_friends}
use Rattle.response_meter.specs.Faults.{Fault, key_step, item_step}
use Rattle.response_meter.specs.FirstFault.{data_fault}
use Rattle.response_meter.specs.Reply.{entries_fault}

-- What is wrong with the entries of a reply to `search`.
abbrev pub fault_of_entries : Members → Option Fault
fault_of_entries ms = entries_fault holds_string name_of_type added_alias search ms

-- What is wrong with {"search":ITEMS}, where each item is a user or a post, and may be null.
abbrev pub fault_of_search : Items → Option Fault
fault_of_search ds = data_fault holds_string name_of_type added_alias search (json_object (member (codes "search") (array ds) no_members))

-- The path of an item there.
abbrev pub at_result : ℕ → List ℕ
at_result n = key_step (codes "search") ++ item_step n

-- What is wrong with {"user":{"friends":ITEMS}}, where at most three friends stand, none of them null.
-- Each has an `id`, which is not null, and then `friends`, which is a list.
abbrev pub fault_of_friends : Items → Option Fault
fault_of_friends ds = data_fault holds_string name_of_type added_alias friends_of_friends
    (json_object (member (codes "user") (json_object (member (codes "friends") (array ds) no_members)) no_members))

-- The path of the list of friends, and of the `id` of a friend.
abbrev pub at_friends : List ℕ
at_friends = key_step (codes "user") ++ key_step (codes "friends")

abbrev pub at_friend_id : ℕ → List ℕ
at_friend_id n = key_step (codes "user") ++ key_step (codes "friends") ++ item_step n ++ key_step (codes "id")

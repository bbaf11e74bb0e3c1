-- How large a JSON value is: the measure of the walk over it.
use Rattle.std.specs.Prelude.{ℕ, suc, ◌+◌}
use Rattle.serde_json.specs.Data.{Data, null, boolean, number, string, array, object, Items, no_items, item, Members, no_members, member}

abbrev mutual
  pub json_size : Data → ℕ
  json_size null = 0
  json_size (boolean b) = 0
  json_size (number n) = 0
  json_size (string s) = 0
  json_size (array items) = suc (items_size items)
  json_size (object members) = suc (members_size members)

  pub items_size : Items → ℕ
  items_size no_items = 0
  items_size (item d others) = suc (json_size d + items_size others)

  pub members_size : Members → ℕ
  members_size no_members = 0
  members_size (member name d others) = suc (json_size d + members_size others)

-- The keys of JSON objects (RFC 8259, 4: "the names within an object SHOULD be unique").
use Rattle.std.specs.Prelude.{◌≡◌, None}
use Rattle.serde_json.specs.Data.{Data, null, boolean, number, string, array, object, Items, no_items, item, Members, no_members, member}
use Rattle.serde_json.specs.Find.{get_member}

-- Each object in the value has each key once: no member stands behind another one with its key.
abbrev mutual
  pub HasEachKeyOnce : Data → Type 0
  HasEachKeyOnce null = Unit {0}
  HasEachKeyOnce (boolean b) = Unit {0}
  HasEachKeyOnce (number n) = Unit {0}
  HasEachKeyOnce (string s) = Unit {0}
  HasEachKeyOnce (array items) = ItemsHaveEachKeyOnce items
  HasEachKeyOnce (object members) = MembersHaveEachKeyOnce members

  pub ItemsHaveEachKeyOnce : Items → Type 0
  ItemsHaveEachKeyOnce no_items = Unit {0}
  ItemsHaveEachKeyOnce (item json others) = HasEachKeyOnce json × ItemsHaveEachKeyOnce others

  pub MembersHaveEachKeyOnce : Members → Type 0
  MembersHaveEachKeyOnce no_members = Unit {0}
  MembersHaveEachKeyOnce (member key json others) = (get_member key others ≡ None) × HasEachKeyOnce json × MembersHaveEachKeyOnce others

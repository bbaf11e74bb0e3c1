-- The JSON of a response (GraphQL October 2021, 7.2).
use Rattle.std.specs.Prelude.{◌≡◌, ℕ, List, Bool, true, false, ◌||◌, Some}
use Rattle.std.specs.Str.{bytes_eq}
use Rattle.serde_json.specs.Data.{Data, null as json_null, array, object as json_object, Items, no_items, item, Members, no_members, member}
use Rattle.serde_json.specs.Find.{get_member}
use Rattle.response_model.specs.Response.{Tree, null, leaf, list_of, object, Elements, no_element, element, Entries, no_entry, entry}

-- whether there is an entry of this response key
abbrev pub has_entry : List ℕ → Entries → Bool
has_entry k no_entry = false
has_entry k (entry key t es) = bytes_eq k key || has_entry k es

-- Each member has the key of an entry.
abbrev pub AreKeysOf : Entries → Members → Type 0
AreKeysOf es no_members = Unit {0}
AreKeysOf es (member k d ms) = (has_entry k es ≡ true) × AreKeysOf es ms

abbrev mutual
  -- Null is said by null, a leaf by its own value, a list by an array, item by item, and an object by a JSON object that has a
  -- member for each entry and no other, in any order.
  pub SaysTree : Data → Tree → Type 0
  SaysTree json null = json ≡ json_null
  SaysTree json (leaf value) = json ≡ value
  SaysTree json (list_of ts) = (ds : Items) × (json ≡ array ds) × SayElements ds ts
  SaysTree json (object T es) = (ms : Members) × (json ≡ json_object ms) × AreKeysOf es ms × SayEntries ms es

  pub SayEntries : Members → Entries → Type 0
  SayEntries ms no_entry = Unit {0}
  SayEntries ms (entry key t es) = ((d : Data) × (get_member key ms ≡ Some d) × SaysTree d t) × SayEntries ms es

  pub SayElements : Items → Elements → Type 0
  SayElements no_items no_element = Unit {0}
  SayElements no_items (element t ts) = ⊥
  SayElements (item d ds) no_element = ⊥
  SayElements (item d ds) (element t ts) = SaysTree d t × SayElements ds ts

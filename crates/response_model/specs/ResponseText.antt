-- The text of a response, as a client is answered with it (GraphQL October 2021, 7.1): the errors with their messages and paths, and the data, in JSON without spaces.
use Rattle.std.specs.Prelude.{ℕ, List, [], ◌∷◌, ◌++◌, Option, Some, None, codes}
use Rattle.serde_json.specs.Data.{Data, null as json_null, string, number, array, unsigned, Items, no_items, item}
use Rattle.serde_json.specs.Written.{compact_text}
use Rattle.response_model.specs.Response.{Tree, null, leaf, list_of, object, Elements, no_element, element, Entries, no_entry, entry}
use Rattle.response_model.specs.Errors.{PathSegment, key_segment, index_segment, ResponseError}

-- What stands between two elements or entries.
abbrev pub comma : List ℕ
comma = codes ","

-- A response key and the colon after it.
abbrev pub key_text : List ℕ → List ℕ
key_text k = compact_text (string k) ++ codes ":"

abbrev mutual
  -- The text of a value. Strings and leaves are written as serde_json writes them compactly; the entries of an object keep their order.
  pub tree_text : Tree → List ℕ
  tree_text null = compact_text json_null
  tree_text (leaf json) = compact_text json
  tree_text (list_of ts) = codes "[" ++ elements_text [] ts
  tree_text (object T es) = codes "{" ++ entries_text [] es

  -- The elements and the closing bracket. `front` stands before the first element, and a comma before each other.
  pub elements_text : List ℕ → Elements → List ℕ
  elements_text front no_element = codes "]"
  elements_text front (element t ts) = front ++ (tree_text t ++ elements_text comma ts)

  -- The entries and the closing brace, likewise.
  pub entries_text : List ℕ → Entries → List ℕ
  entries_text front no_entry = codes "}"
  entries_text front (entry k t es) = front ++ ((key_text k ++ tree_text t) ++ entries_text comma es)

-- A path as JSON: keys as strings, items by their numbers.
abbrev pub segment_json : PathSegment → Data
segment_json (key_segment name) = string name
segment_json (index_segment n) = number (unsigned n)

abbrev pub segments_json : List PathSegment → Items
segments_json [] = no_items
segments_json (s ∷ ss) = item (segment_json s) (segments_json ss)

abbrev pub path_text : Option (List PathSegment) → List ℕ
path_text None = []
path_text (Some steps) = codes ",\"path\":" ++ compact_text (array (segments_json steps))

-- An error has its message, and its path where it has one.
abbrev pub error_text : ResponseError → List ℕ
error_text e = codes "{\"message\":" ++ compact_text (string e.message) ++ path_text e.path ++ codes "}"

-- The errors and the closing bracket, likewise.
abbrev pub errors_text : List ℕ → List ResponseError → List ℕ
errors_text front [] = codes "]"
errors_text front (e ∷ es) = front ++ (error_text e ++ errors_text comma es)

-- The entry of the errors, where there are errors.
abbrev pub errors_part : List ResponseError → List ℕ
errors_part [] = []
errors_part (e ∷ es) = codes "\"errors\":[" ++ errors_text [] (e ∷ es)

-- The entry of the data, where there is data, with a comma before it where errors stand before it.
abbrev pub data_part : List ResponseError → Option Tree → List ℕ
data_part errors None = []
data_part [] (Some tree) = codes "\"data\":" ++ tree_text tree
data_part (e ∷ es) (Some tree) = codes ",\"data\":" ++ tree_text tree

-- The text of a response with data or none, and with these errors.
abbrev pub response_text : Option Tree → List ResponseError → List ℕ
response_text tree errors = codes "{" ++ errors_part errors ++ data_part errors tree ++ codes "}"

-- How values and trees are written: a float by some numeral that reads as it, and all else in the one way that serde_json writes compactly.
use Rattle.std.specs.Prelude.{◌≡◌, ℕ, ◌++◌, max, suc, List, false, Some, IsUtf8}
use Rattle.json.specs.Json as json
use Rattle.json.specs.Lex.{tokens}
use Rattle.json.specs.Tree as tree
use Rattle.json.specs.Print.{print}
use Rattle.serde_json.specs.Data.{Data, depth as data_depth}
use Rattle.serde_json.specs.Read.{read, of_json}
use Rattle.serde_json.specs.Written.{has_float, outline, blank, compact_text, IsInOrder}
use Rattle.response_model.specs.Response.{Tree, null, leaf, list_of, object, Elements, no_element, element, Entries, no_entry, entry}

-- ---- values

-- JSON that reads as the value: each item and member stands there once, and they have their order.
pub record IsWritten (d : Data) (j : json.Json) : Type 0 where
  pub numbers : tree.HasNumbers j
  pub is_read : of_json j ≡ Some d
  pub in_order : blank j ≡ outline d

-- The text is such JSON, without a space.
abbrev pub IsValueText : Data → List ℕ → Type 0
IsValueText d text = (j : json.Json) × IsWritten d j × (text ≡ print (tree.json_tokens j))

-- The bytes are the compact text of this JSON: UTF-8, no space between tokens, members and items in their order, and they are
-- read as this JSON. With which digits floats are written isn't said; without floats it is one text.
pub record IsCompact (json : Data) (bytes : List ℕ) : Type 0 where
  pub utf8 : IsUtf8 bytes
  pub no_space : bytes ≡ print (tokens bytes)
  pub in_order : IsInOrder bytes json
  pub is_read : read bytes ≡ Some json
  pub text : has_float json ≡ false → bytes ≡ compact_text json

-- To one text another was appended that is such a text.
abbrev pub Appends : (List ℕ → Type 0) → List ℕ → List ℕ → Type 0
Appends Is before after = (text : List ℕ) × Is text × (after ≡ before ++ text)

-- ---- trees

-- JSON of the shape of a tree: its leaves are written so, and its objects have their entries in their order.
abbrev mutual
  pub WritesTree : Tree → json.Json → Type 0
  WritesTree null j = j ≡ json.null
  WritesTree (leaf d) j = IsWritten d j
  WritesTree (list_of ts) j = (js : json.Items) × (j ≡ json.array js) × WritesElements ts js
  WritesTree (object T es) j = (ms : json.Members) × (j ≡ json.object ms) × WritesEntries es ms

  pub WritesElements : Elements → json.Items → Type 0
  WritesElements no_element js = js ≡ json.no_items
  WritesElements (element t ts) js = (j : json.Json) × (others : json.Items) × (js ≡ json.item j others) × WritesTree t j × WritesElements ts others

  pub WritesEntries : Entries → json.Members → Type 0
  WritesEntries no_entry ms = ms ≡ json.no_members
  WritesEntries (entry k t es) ms = (j : json.Json) × (others : json.Members) × (ms ≡ json.member k j others) × WritesTree t j × WritesEntries es others

-- No leaf holds a float.
abbrev mutual
  pub IsFloatless : Tree → Type 0
  IsFloatless null = Unit {0}
  IsFloatless (leaf d) = has_float d ≡ false
  IsFloatless (list_of ts) = AreFloatless ts
  IsFloatless (object T es) = HaveFloatless es

  pub AreFloatless : Elements → Type 0
  AreFloatless no_element = Unit {0}
  AreFloatless (element t ts) = IsFloatless t × AreFloatless ts

  pub HaveFloatless : Entries → Type 0
  HaveFloatless no_entry = Unit {0}
  HaveFloatless (entry k t es) = IsFloatless t × HaveFloatless es

-- how many lists and objects stand inside of one another
abbrev mutual
  pub nesting : Tree → ℕ
  nesting null = 0
  nesting (leaf d) = data_depth d
  nesting (list_of ts) = suc (elements_nesting ts)
  nesting (object T es) = suc (entries_nesting es)

  pub elements_nesting : Elements → ℕ
  elements_nesting no_element = 0
  elements_nesting (element t ts) = max (nesting t) (elements_nesting ts)

  pub entries_nesting : Entries → ℕ
  entries_nesting no_entry = 0
  entries_nesting (entry k t es) = max (nesting t) (entries_nesting es)

-- The tables as they are made in a database that lists nothing, and what such a database lists then.
use Rattle.std.specs.Prelude.{codes, ℕ, pos, ◌+◌, ◌<◌, ◌≤◌, ◌≡◌, ◌==◌, if◌then◌else◌, List, [], ◌∷◌, take, map, false, IsTrue}
use Rattle.sqlite_value.specs.declared.value.Value.TheVariants.{Int, Text}
use Rattle.sqlite_value.specs.Order.{Row}
use Rattle.sqlite_trees.specs.View.{View}
use Rattle.sqlite_trees.specs.declared.store.Shape.TheVariants.{Table, Absent}
use Rattle.sqlite_trees.specs.Tree.{Trees}
use Rattle.sqlite_trees.specs.Objects.{catalog_tree, version_tree, version_rows}
use Rattle.store_trees.specs.Tables.{meta_tree, client_tree, account_tree, grant_tree, meta_rows}

abbrev pub table_name : ℕ → List ℕ
table_name tree = if tree == 0 then codes "meta" else (if tree == 1 then codes "client" else (if tree == 2 then codes "account" else codes "open_grant"))

abbrev pub meta_text : List ℕ
meta_text = codes "CREATE TABLE meta (id INTEGER PRIMARY KEY, value INTEGER NOT NULL) STRICT"

abbrev pub client_text : List ℕ
client_text = codes "CREATE TABLE client (id INTEGER PRIMARY KEY, key_sha256 BLOB NOT NULL) STRICT"

abbrev pub account_text : List ℕ
account_text =
    codes "CREATE TABLE account (id INTEGER PRIMARY KEY, window INTEGER NOT NULL, settled_types INTEGER NOT NULL, settled_fields INTEGER NOT NULL, carried_types INTEGER NOT NULL, carried_fields INTEGER NOT NULL) STRICT"

abbrev pub grant_text : List ℕ
grant_text =
    codes "CREATE TABLE open_grant (id INTEGER PRIMARY KEY, client INTEGER NOT NULL, window INTEGER NOT NULL, types INTEGER NOT NULL, fields INTEGER NOT NULL) STRICT"

abbrev pub table_text : ℕ → List ℕ
table_text tree = if tree == 0 then meta_text else (if tree == 1 then client_text else (if tree == 2 then account_text else grant_text))

-- a table as `sqlite_schema` lists it: its rowid, type, name, table and text
abbrev pub listed : ℕ → Row
listed tree = Int (pos (tree + 1)) ∷ Text (codes "table") ∷ Text (table_name tree) ∷ Text (table_name tree) ∷ Text (table_text tree) ∷ []

-- and what the store keeps behind them: its shape, and that no column is REAL
abbrev pub catalog_row : ℕ → Row
catalog_row tree =
    Int (pos (tree + 1)) ∷ Text (codes "table") ∷ Text (table_name tree) ∷ Text (table_name tree) ∷ Text (table_text tree) ∷ Int (pos 1) ∷ Int (pos 0) ∷ []

abbrev pub tables_listed : List Row
tables_listed = listed 0 ∷ listed 1 ∷ listed 2 ∷ listed 3 ∷ []

abbrev pub catalog_rows : List Row
catalog_rows = catalog_row 0 ∷ catalog_row 1 ∷ catalog_row 2 ∷ catalog_row 3 ∷ []

-- the database has these tables, and nothing else
abbrev pub AreListed : Trees → Type 0
AreListed trees = map (take 5) (trees catalog_tree) ≡ tables_listed

-- So many of the tables are made, in their order and without columns of the type REAL, and the trees of the others are free. Nothing has failed so far.
pub record IsMaking (v : View) (count : ℕ) : Type 0 where
  pub sound : v.is_broken ≡ false
  pub numbered : IsTrue v.is_numbered
  pub listed : v.trees catalog_tree ≡ take count catalog_rows
  pub made : (tree : ℕ) → tree < count → (v.shape tree ≡ Table) × (v.trees tree ≡ [])
  pub plain : (tree : ℕ) → tree < count → v.reals tree ≡ 0
  pub free : (tree : ℕ) → count ≤ tree → tree < 4 → v.shape tree ≡ Absent

-- the four trees are tables
abbrev pub HasShapes : View → Type 0
HasShapes v = (v.shape meta_tree ≡ Table) × (v.shape client_tree ≡ Table) × (v.shape account_tree ≡ Table) × (v.shape grant_tree ≡ Table)

-- the trees of the tables are free
abbrev pub HasFreeTrees : View → Type 0
HasFreeTrees v = (v.shape meta_tree ≡ Absent) × (v.shape client_tree ≡ Absent) × (v.shape account_tree ≡ Absent) × (v.shape grant_tree ≡ Absent)

-- the tables, and nothing in them but what the database says of itself
pub record AreEmpty (trees : Trees) (seconds : ℕ) : Type 0 where
  pub listed : AreListed trees
  pub meta : trees meta_tree ≡ meta_rows 1 seconds
  pub clients : trees client_tree ≡ []
  pub accounts : trees account_tree ≡ []
  pub grants : trees grant_tree ≡ []

-- what a making leaves: the empty tables, and the mark of accounts as the database's user version
pub record AreMade (trees : Trees) (seconds : ℕ) : Type 0 where
  pub empty : AreEmpty trees seconds
  pub marked : trees version_tree ≡ version_rows 0x5443_4b31

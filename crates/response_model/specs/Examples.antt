-- Small plans, replies and responses, by which the definitions are read aloud and computed.
use Rattle.std.specs.Prelude.{ℕ, ◌+◌, ◌*◌, ◌/◌, List, [], ◌∷◌, codes, Bool, true, false, cond, eqb, Option, Some, None}
use Rattle.serde_json.specs.Data.{Data, null as json_null, boolean, number, string, array, object as json_object, no_items, item, Members, no_members, member}
use Rattle.response_model.specs.Plan.{Form, single, listed, Selected, type_name, numbered, Plan, leaf_plan, position, ObjectTypes, no_type, object_type, Nodes, no_node, node}
use Rattle.response_model.specs.Errors.{key_segment, index_segment, ResponseError, pathless}
use Rattle.response_model.specs.Response.{Tree, leaf, list_of, object, Elements, no_element, element, no_entry, entry}

-- One, in the unit that the examples count in, and parts of it.
abbrev pub one : ℕ
one = 1000000

abbrev pub half : ℕ
half = one / 2

abbrev pub quarter : ℕ
quarter = one / 4

abbrev pub tenth : ℕ
tenth = one / 10

-- The object types are Query, User and Post, told by 0, 1 and 2. The one scalar type, told by 0, holds strings.
abbrev pub name_of_type : ℕ → List ℕ
name_of_type T = cond (eqb T 0) (codes "Query") (cond (eqb T 1) (codes "User") (codes "Post"))

abbrev pub holds_string : ℕ → Data → Bool
holds_string type json_null = false
holds_string type (boolean b) = false
holds_string type (number n) = false
holds_string type (string s) = true
holds_string type (array ds) = false
holds_string type (json_object ms) = false

-- The added alias.
abbrev pub added_alias : List ℕ
added_alias = codes "gateway_typename"

-- A node whose response key is its field's name, without arguments that cost.
abbrev pub plain : List ℕ → Form → Option ℕ → ℕ → Selected
plain name form size weight = record { key = name; field = name; asked = false; form = form; size = size; weight = weight; arguments = 0 }

abbrev pub text : Plan
text = leaf_plan (numbered 0) 0 (string [])

-- Query has weight 1, and so has User.
abbrev pub query : Nodes → Plan
query nodes = position (object_type 0 one nodes no_type)

abbrev pub user : Nodes → Plan
user nodes = position (object_type 1 one nodes no_type)

-- `id` weighs nothing, `name` 0.25 and `friends`, a list of three users, 1.
abbrev pub id_then : Nodes → Nodes
id_then others = node (plain (codes "id") (single false) None 0) text others

abbrev pub name_then : Nodes → Nodes
name_then others = node (plain (codes "name") (single true) None quarter) text others

abbrev pub friends : Nodes → Nodes
friends nodes = node (plain (codes "friends") (listed false false) (Some 3) one) (user nodes) no_node

-- { user { friends { id friends { name } } } }
abbrev pub friends_of_friends : Plan
friends_of_friends = query (node (plain (codes "user") (single true) None one) (user (friends (id_then (friends (name_then no_node))))) no_node)

-- { search { ... on User { friends { id } } ... on Post { author { id } } } }
-- `search` is a list of five users or posts, each of which may be null and has its type name under the added alias.
-- Post has weight 2.5, and `author` 4.
abbrev pub author : Nodes → Nodes
author nodes = node (plain (codes "author") (single true) None (4 * one)) (user nodes) no_node

abbrev pub users_or_posts : ObjectTypes
users_or_posts = object_type 1 one (friends (id_then no_node)) (object_type 2 (2 * one + half) (author (id_then no_node)) no_type)

abbrev pub asked_search : Selected
asked_search = record { key = codes "search"; field = codes "search"; asked = true; form = listed true true; size = Some 5; weight = one; arguments = 0 }

abbrev pub search : Plan
search = query (node asked_search (position users_or_posts) no_node)

-- A user with three friends, and a post with its author, where each text is empty.
abbrev pub of_id : Tree
of_id = object 1 (entry (codes "id") (leaf (string [])) no_entry)

abbrev pub user_of_three : Tree
user_of_three = object 1 (entry (codes "friends") (list_of (element of_id (element of_id (element of_id no_element)))) no_entry)

abbrev pub post_of_author : Tree
post_of_author = object 2 (entry (codes "author") of_id no_entry)

-- A response of `search` with these items.
abbrev pub found : Elements → Tree
found ts = object 0 (entry (codes "search") (list_of ts) no_entry)

abbrev pub five : Tree → Elements
five t = element t (element t (element t (element t (element t no_element))))

-- { user { friends { name } } }, and a response with friends of this name, as many as there are items.
abbrev pub names_of_friends : Plan
names_of_friends = query (node (plain (codes "user") (single true) None one) (user (friends (name_then no_node))) no_node)

abbrev pub befriended : Elements → Tree
befriended ts = object 0 (entry (codes "user") (object 1 (entry (codes "friends") (list_of ts) no_entry)) no_entry)

abbrev pub named : Tree → Tree
named t = object 1 (entry (codes "name") t no_entry)

-- { tags kind: __typename } of a query type with a list of texts of any length.
abbrev pub tags_and_kind : Plan
tags_and_kind = query (node (plain (codes "tags") (listed true false) None half) text
    (node (record { key = codes "kind"; field = codes "__typename"; asked = false; form = single false; size = None; weight = 0; arguments = 0 }) (leaf_plan type_name 0 (string (codes "Query"))) no_node))

-- Its response with these tags and this name of the query type.
abbrev pub tagged : Elements → List ℕ → Tree
tagged ts kind = object 0 (entry (codes "tags") (list_of ts) (entry (codes "kind") (leaf (string kind)) no_entry))

-- {"search":[ITEM,null]}
abbrev pub search_reply : Members → Data
search_reply ms = json_object (member (codes "search") (array (item (json_object ms) (item json_null no_items))) no_members)

-- The members of {"author":{"id":""},"gateway_typename":"Post"}, with more behind them.
abbrev pub post_members : Members → Members
post_members more = member (codes "author") (json_object (member (codes "id") (string []) no_members)) (member added_alias (string (codes "Post")) more)

-- {"kind":"Query","tags":TAGS}, whose keys stand in another order than the nodes.
abbrev pub tags_reply : Data → Data
tags_reply tags = json_object (member (codes "kind") (string (codes "Query")) (member (codes "tags") tags no_members))

-- { find(filter: { tag: "a", sub: { tag: null } }, ids: ["1", "2"]) }, where `find` weighs 2, and its arguments 1 + 0.5 + 1 and 2 times 0.1.
abbrev pub find : Plan
find = query (node (record { key = codes "find"; field = codes "find"; asked = false; form = single true; size = None; weight = 2 * one; arguments = 2 * one + half + 2 * tenth }) text no_node)

-- { node { id } }, which is a user or a post, and both weigh 1.
abbrev pub user_or_post : Plan
user_or_post = query (node (plain (codes "node") (single true) None one) (position (object_type 1 one (id_then no_node) (object_type 2 one (id_then no_node) no_type))) no_node)

abbrev pub one_node : Tree → Tree
one_node t = object 0 (entry (codes "node") t no_entry)

-- An error "x" at the second item of `search`, and an error "y" without a path.
abbrev pub failed : ResponseError
failed = record { message = codes "x"; path = Some (key_segment (codes "search") ∷ index_segment 1 ∷ []) }

abbrev pub unplaced : ResponseError
unplaced = pathless (codes "y")

-- The same as JSON, the first with a path to come and a further member, the second with a path that is null.
abbrev pub failed_json : Data → Data
failed_json path = json_object (member (codes "code") (string (codes "E")) (member (codes "message") (string (codes "x")) (member (codes "path") path no_members)))

abbrev pub unplaced_json : Data
unplaced_json = json_object (member (codes "message") (string (codes "y")) (member (codes "path") json_null no_members))

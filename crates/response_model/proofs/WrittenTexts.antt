-- What is written is read back, and what serde_json writes is JSON by which the value is written.
use Rattle.std.proofs.Common.{◌≡◌, ◌∙◌, ℕ, suc, max, ◌≤◌, List, [], ◌∷◌, ◌++◌, Bool, true, false, if◌then◌else◌, Some, Result, Ok, Err, option_and_then, codes, refl, sym, ap, ap₂, subst, IsUtf8, arith, append_assoc, append-nil}
use Rattle.std.specs.Prelude.{OnOk, is_ok}
use Rattle.std.proofs.Math.Nat.{le-max_left, le-max_right}
use Rattle.std.specs.List.{fold}
use Rattle.std.proofs.lemmas.List.Sums.{fold-append}
use Rattle.json.specs.Json as json
use Rattle.json.specs.Token.{Token}
use Rattle.json.specs.Lex.{tokens}
use Rattle.json.specs.Tree as tree
use Rattle.json.specs.Print.{print, print_from, ends}
use Rattle.json.proofs.Printed.Tokens.{print_from-append, tokens-print}
use Rattle.json.proofs.Printed.Trees.{document-print, value-json_tokens, ArePrintable-json_tokens}
use Rattle.json.proofs.Numbered.{ArePrintableOrBad-tokens, value-HasNumbers}
use Rattle.serde_json.specs.Data.{Data, null as data_null, boolean, number, string, array, object as data_object, Items, no_items, item, Members, no_members, member, depth as data_depth, items_depth, members_depth}
use Rattle.serde_json.specs.Read.{read, of_json, max_depth}
use Rattle.serde_json.specs.Written.{outline, items_outline, members_outline, blank, blank_items, blank_members, IsInOrder, has_float, compact_text}
use Rattle.response_model.specs.Response.{Tree, null, leaf, list_of, object, Elements, no_element, element, Entries, no_entry, entry}
use Rattle.response_model.specs.ResponseText.{comma, key_text}
use Rattle.response_model.specs.AnswerTexts.{IsLeafText, IsTreeText, AreElementsText, AreEntriesText}
use Rattle.response_model.specs.WrittenJson.{IsWritten, IsValueText, IsCompact, Appends, WritesTree, WritesElements, WritesEntries, nesting, elements_nesting, entries_nesting}
use Rattle.response_model.proofs.OneText.{one_value_text}

-- ---- depths: blanked floats change none

mutual
  blank_depth : (j : json.Json) → tree.depth (blank j) ≡ tree.depth j
  blank_depth json.null = refl
  blank_depth (json.boolean b) = refl
  blank_depth (json.number s) = refl
  blank_depth (json.string s) = refl
  blank_depth (json.array js) = ap suc (blank_items_depth js)
  blank_depth (json.object ms) = ap suc (blank_members_depth ms)

  blank_items_depth : (js : json.Items) → tree.items_depth (blank_items js) ≡ tree.items_depth js
  blank_items_depth json.no_items = refl
  blank_items_depth (json.item j js) = ap₂ max (blank_depth j) (blank_items_depth js)

  blank_members_depth : (ms : json.Members) → tree.members_depth (blank_members ms) ≡ tree.members_depth ms
  blank_members_depth json.no_members = refl
  blank_members_depth (json.member k j ms) = ap₂ max (blank_depth j) (blank_members_depth ms)

mutual
  outline_depth : (d : Data) → tree.depth (outline d) ≡ data_depth d
  outline_depth data_null = refl
  outline_depth (boolean b) = refl
  outline_depth (number n) = refl
  outline_depth (string s) = refl
  outline_depth (array ds) = ap suc (outline_items_depth ds)
  outline_depth (data_object ms) = ap suc (outline_members_depth ms)

  outline_items_depth : (ds : Items) → tree.items_depth (items_outline ds) ≡ items_depth ds
  outline_items_depth no_items = refl
  outline_items_depth (item d ds) = ap₂ max (outline_depth d) (outline_items_depth ds)

  outline_members_depth : (ms : Members) → tree.members_depth (members_outline ms) ≡ members_depth ms
  outline_members_depth no_members = refl
  outline_members_depth (member k d ms) = ap₂ max (outline_depth d) (outline_members_depth ms)

-- JSON in the order of a value is as deep as the value
depth_in_order : (d : Data) (j : json.Json) → blank j ≡ outline d → tree.depth j ≡ data_depth d
depth_in_order d j same = sym (blank_depth j) ∙ ap tree.depth same ∙ outline_depth d

mutual
  tree_depth : (t : Tree) (j : json.Json) → WritesTree t j → tree.depth j ≡ nesting t
  tree_depth null j is = ap tree.depth is
  tree_depth (leaf d) j is = depth_in_order d j is.in_order
  tree_depth (list_of ts) j is = ap tree.depth is.1 ∙ ap suc (elements_depth ts is.0 is.2)
  tree_depth (object T es) j is = ap tree.depth is.1 ∙ ap suc (entries_depth es is.0 is.2)

  elements_depth : (ts : Elements) (js : json.Items) → WritesElements ts js → tree.items_depth js ≡ elements_nesting ts
  elements_depth no_element js is = ap tree.items_depth is
  elements_depth (element t ts) js is = ap tree.items_depth is.2 ∙ ap₂ max (tree_depth t is.0 is.3) (elements_depth ts is.1 is.4)

  entries_depth : (es : Entries) (ms : json.Members) → WritesEntries es ms → tree.members_depth ms ≡ entries_nesting es
  entries_depth no_entry ms is = ap tree.members_depth is
  entries_depth (entry k t es) ms is = ap tree.members_depth is.2 ∙ ap₂ max (tree_depth t is.0 is.3) (entries_depth es is.1 is.4)

-- ---- numbers: each that stands in the JSON of a tree is a number of JSON

mutual
  tree_numbers : (t : Tree) (j : json.Json) → WritesTree t j → tree.HasNumbers j
  tree_numbers null j is = subst tree.HasNumbers (sym is) tt
  tree_numbers (leaf d) j is = is.numbers
  tree_numbers (list_of ts) j is = subst tree.HasNumbers (sym is.1) (elements_numbers ts is.0 is.2)
  tree_numbers (object T es) j is = subst tree.HasNumbers (sym is.1) (entries_numbers es is.0 is.2)

  elements_numbers : (ts : Elements) (js : json.Items) → WritesElements ts js → tree.ItemsHaveNumbers js
  elements_numbers no_element js is = subst tree.ItemsHaveNumbers (sym is) tt
  elements_numbers (element t ts) js is = subst tree.ItemsHaveNumbers (sym is.2) (tree_numbers t is.0 is.3, elements_numbers ts is.1 is.4)

  entries_numbers : (es : Entries) (ms : json.Members) → WritesEntries es ms → tree.MembersHaveNumbers ms
  entries_numbers no_entry ms is = subst tree.MembersHaveNumbers (sym is) tt
  entries_numbers (entry k t es) ms is = subst tree.MembersHaveNumbers (sym is.2) (tree_numbers t is.0 is.3, entries_numbers es is.1 is.4)

below_left : (a b : ℕ) → max a b ≤ max_depth → a ≤ max_depth
below_left a b both = omega (arith, le-max_left a b, both)

below_right : (a b : ℕ) → max a b ≤ max_depth → b ≤ max_depth
below_right a b both = omega (arith, le-max_right a b, both)

-- ---- what is printed: a value's tokens before others

-- whether something ends with the last of these tokens, so that a comma comes before what follows
abbrev after_tokens : Bool → List Token → Bool
after_tokens before ts = fold (λ _ t. ends t) before ts

-- it does with the tokens of a value, and of what is left of a list or an object
mutual
  value_ends : (b : Bool) (j : json.Json) → after_tokens b (tree.json_tokens j) ≡ true
  value_ends b json.null = refl
  value_ends b (json.boolean truth) = refl
  value_ends b (json.number s) = refl
  value_ends b (json.string s) = refl
  value_ends b (json.array js) = items_end false js
  value_ends b (json.object ms) = members_end false ms

  items_end : (b : Bool) (js : json.Items) → after_tokens b (tree.items_tokens js) ≡ true
  items_end b json.no_items = refl
  items_end b (json.item j js) = fold-append (λ _ t. ends t) b (tree.json_tokens j) (tree.items_tokens js) ∙ items_end (after_tokens b (tree.json_tokens j)) js

  members_end : (b : Bool) (ms : json.Members) → after_tokens b (tree.members_tokens ms) ≡ true
  members_end b json.no_members = refl
  members_end b (json.member k j ms) = fold-append (λ _ t. ends t) false (tree.json_tokens j) (tree.members_tokens ms) ∙ members_end (after_tokens false (tree.json_tokens j)) ms

-- a comma, where something stands before
abbrev pub between : Bool → List ℕ
between true = comma
between false = []

value_after : (b : Bool) (j : json.Json) → print_from b (tree.json_tokens j) ≡ between b ++ print (tree.json_tokens j)
unfolding print_from
value_after false j = refl
value_after true json.null = refl
value_after true (json.boolean truth) = refl
value_after true (json.number s) = refl
value_after true (json.string s) = refl
value_after true (json.array js) = refl
value_after true (json.object ms) = refl

pub value_then : (b : Bool) (j : json.Json) (ts : List Token) → print_from b (tree.json_tokens j ++ ts) ≡ between b ++ (print (tree.json_tokens j) ++ print_from true ts)
value_then b j ts =
    print_from-append b (tree.json_tokens j) ts
    ∙ ap (λ ended. print_from b (tree.json_tokens j) ++ print_from ended ts) (value_ends b j)
    ∙ ap (λ s. s ++ print_from true ts) (value_after b j)
    ∙ append_assoc (between b) (print (tree.json_tokens j)) (print_from true ts)

null_text : codes "null" ≡ print (tree.json_tokens json.null)
unfolding print_from
null_text = refl

pub list_start : (js : json.Items) → codes "[" ++ print_from false (tree.items_tokens js) ≡ print (tree.json_tokens (json.array js))
unfolding print_from
list_start js = refl

pub object_start : (ms : json.Members) → codes "{" ++ print_from false (tree.members_tokens ms) ≡ print (tree.json_tokens (json.object ms))
unfolding print_from
object_start ms = refl

pub list_end : (b : Bool) → codes "]" ≡ print_from b (tree.items_tokens json.no_items)
unfolding print_from
list_end true = refl
list_end false = refl

pub object_end : (b : Bool) → codes "}" ≡ print_from b (tree.members_tokens json.no_members)
unfolding print_from
object_end true = refl
object_end false = refl

pub key_then : (b : Bool) (k : List ℕ) (j : json.Json) (ms : json.Members)
    → print_from b (tree.members_tokens (json.member k j ms)) ≡ (between b ++ key_text k) ++ (print (tree.json_tokens j) ++ print_from true (tree.members_tokens ms))
unfolding print_from
key_then true k j ms = ap (λ s. 44 ∷ (key_text k ++ s)) (value_then false j (tree.members_tokens ms))
key_then false k j ms = ap (λ s. key_text k ++ s) (value_then false j (tree.members_tokens ms))

-- ---- a text of a tree is JSON by which the tree is written

mutual
  tree_printed : (t : Tree) (text : List ℕ) → IsTreeText t text → nesting t ≤ max_depth → (j : json.Json) × WritesTree t j × (text ≡ print (tree.json_tokens j))
  tree_printed null text is shallow = (json.null, refl, is ∙ null_text)
  tree_printed (leaf d) text is shallow = is.written shallow
  tree_printed (list_of ts) text is shallow =
      let inside = elements_printed false ts is.0 is.2 (omega (arith, shallow)) in
      (json.array inside.0, (inside.0, refl, inside.1), is.1 ∙ ap (λ s. codes "[" ++ s) inside.2 ∙ list_start inside.0)
  tree_printed (object T es) text is shallow =
      let inside = entries_printed false es is.0 is.2 (omega (arith, shallow)) in
      (json.object inside.0, (inside.0, refl, inside.1), is.1 ∙ ap (λ s. codes "{" ++ s) inside.2 ∙ object_start inside.0)

  elements_printed : (b : Bool) (ts : Elements) (text : List ℕ) → AreElementsText (between b) ts text → elements_nesting ts ≤ max_depth → (js : json.Items) × WritesElements ts js × (text ≡ print_from b (tree.items_tokens js))
  elements_printed b no_element text is shallow = (json.no_items, refl, is ∙ list_end b)
  elements_printed b (element t ts) text is shallow =
      let both = is.2 in
      let one = tree_printed t both.0 both.3 (below_left (nesting t) (elements_nesting ts) shallow) in
      let others = elements_printed true ts both.1 both.4 (below_right (nesting t) (elements_nesting ts) shallow) in (
        json.item one.0 others.0,
        (one.0, others.0, refl, one.1, others.1),
        is.1 ∙ ap (λ s. between b ++ s) (both.2 ∙ ap₂ (λ x y. x ++ y) one.2 others.2) ∙ sym (value_then b one.0 (tree.items_tokens others.0)),
      )

  entries_printed : (b : Bool) (es : Entries) (text : List ℕ) → AreEntriesText (between b) es text → entries_nesting es ≤ max_depth → (ms : json.Members) × WritesEntries es ms × (text ≡ print_from b (tree.members_tokens ms))
  entries_printed b no_entry text is shallow = (json.no_members, refl, is ∙ object_end b)
  entries_printed b (entry k t es) text is shallow =
      let both = is.2 in
      let one = tree_printed t both.0 both.3 (below_left (nesting t) (entries_nesting es) shallow) in
      let others = entries_printed true es both.1 both.4 (below_right (nesting t) (entries_nesting es) shallow) in (
        json.member k one.0 others.0,
        (one.0, others.0, refl, one.1, others.1),
        is.1 ∙ ap (λ s. (between b ++ key_text k) ++ s) (both.2 ∙ ap₂ (λ x y. x ++ y) one.2 others.2) ∙ sym (key_then b k one.0 others.0),
      )

-- ---- reading back

pub tree_text_read : (t : Tree) (text : List ℕ) → IsTreeText t text → nesting t ≤ max_depth → (j : json.Json) × WritesTree t j × (json.document text ≡ Some j)
tree_text_read t text is shallow =
    let whole = tree_printed t text is (omega (arith, shallow)) in
    (whole.0, whole.1, ap json.document whole.2 ∙ document-print whole.0 (tree_numbers t whole.0 whole.1) (omega (arith, tree_depth t whole.0 whole.1, shallow)))

-- ---- what serde_json writes

-- a compact text in the order of a value that is read as the value
value_text : (d : Data) (s : List ℕ) → data_depth d ≤ max_depth → s ≡ print (tokens s) → IsInOrder s d → read s ≡ Some d → IsValueText d s
value_text d s shallow compact order back =
    let whole : json.value max_depth (tokens s) ≡ Some (order.0, []) =
    ap (json.value max_depth) (order.1 ∙ sym (append-nil (tree.json_tokens order.0))) ∙ value-json_tokens order.0 max_depth [] (omega (arith, depth_in_order d order.0 order.2, shallow)) in (
      order.0,
      record {
        numbers = value-HasNumbers max_depth (tokens s) [] order.0 (ArePrintableOrBad-tokens s) whole;
        is_read = sym (ap (λ o. option_and_then of_json (option_and_then (λ p. json.if_last p.0 p.1) o)) whole) ∙ back;
        in_order = order.2;
      },
      compact ∙ ap print order.1,
    )

pub value_appended : {A E : Type 0} (d : Data) (s part before after : List ℕ) (r : Result A E) → s ≡ print (tokens s) → IsInOrder s d → (data_depth d ≤ max_depth → read s ≡ Some d)
    → part ≡ s → after ≡ (if is_ok r then before ++ part else before) → OnOk r (data_depth d ≤ max_depth → Appends (IsValueText d) before after)
value_appended d s part before after (Ok a) compact order back same is = λ shallow. (s, value_text d s shallow compact order (back shallow), is ∙ ap (λ x. before ++ x) same)
value_appended d s part before after (Err e) compact order back same is = tt

pub leaf_appended : {A E : Type 0} (d : Data) (s part before after : List ℕ) (r : Result A E) → s ≡ print (tokens s) → IsInOrder s d → (data_depth d ≤ max_depth → read s ≡ Some d) → (has_float d ≡ false → s ≡ compact_text d)
    → part ≡ s → after ≡ (if is_ok r then before ++ part else before) → OnOk r (Appends (IsLeafText d) before after)
leaf_appended d s part before after (Ok a) compact order back plain same is =
    (s, record { written = λ shallow. value_text d s shallow compact order (back shallow); plain = plain }, is ∙ ap (λ x. before ++ x) same)
leaf_appended d s part before after (Err e) compact order back plain same is = tt

-- a text of a value is a compact one
pub value_compact : (d : Data) (s : List ℕ) → IsUtf8 s → data_depth d ≤ max_depth → IsValueText d s → IsCompact d s
value_compact d s utf8 shallow is =
    let w : IsWritten d is.0 = is.1 in
    let there : tokens s ≡ tree.json_tokens is.0 = ap tokens is.2 ∙ tokens-print (tree.json_tokens is.0) (ArePrintable-json_tokens is.0 w.numbers) in
    let whole : json.value max_depth (tokens s) ≡ Some (is.0, []) =
    ap (json.value max_depth) (there ∙ sym (append-nil (tree.json_tokens is.0))) ∙ value-json_tokens is.0 max_depth [] (omega (arith, depth_in_order d is.0 w.in_order, shallow)) in
    record {
      utf8 = utf8;
      no_space = is.2 ∙ ap print (sym there);
      in_order = (is.0, there, w.in_order);
      is_read = ap (λ o. option_and_then of_json (option_and_then (λ p. json.if_last p.0 p.1) o)) whole ∙ w.is_read;
      text = λ none. one_value_text d s is none;
    }

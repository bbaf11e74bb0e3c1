-- Where no float is held, a value and a tree have one text: the one that serde_json writes.
use Rattle.std.proofs.Common.{◌≡◌, ◌∙◌, List, ℕ, ◌++◌, [], false, codes, sym, ap, ap₂, append_assoc}
use Rattle.json.specs.Json as json
use Rattle.json.specs.Lex.{tokens}
use Rattle.json.specs.Tree as tree
use Rattle.json.specs.Print.{print}
use Rattle.json.proofs.Printed.Tokens.{tokens-print}
use Rattle.json.proofs.Printed.Trees.{ArePrintable-json_tokens}
use Rattle.serde_json.specs.Data.{Data}
use Rattle.serde_json.specs.Written.{has_float, outline, compact_text}
use Rattle.serde_json.proofs.Texts.{tokens_from_order, print-outline}
use Rattle.response_model.specs.Response.{Tree, null, leaf, list_of, object, Elements, no_element, element, Entries, no_entry, entry}
use Rattle.response_model.specs.ResponseText.{comma, key_text, tree_text, elements_text, entries_text}
use Rattle.response_model.specs.WrittenJson.{IsWritten, IsValueText, IsFloatless, AreFloatless, HaveFloatless}
use Rattle.response_model.specs.AnswerTexts.{IsTreeText, AreElementsText, AreEntriesText}

-- ---- values

-- the tokens of a value without floats are those of its outline
outlined : (d : Data) (j : json.Json) → IsWritten d j → has_float d ≡ false → tree.json_tokens j ≡ tree.json_tokens (outline d)
outlined d j is none =
    let read_again : tokens (print (tree.json_tokens j)) ≡ tree.json_tokens j = tokens-print (tree.json_tokens j) (ArePrintable-json_tokens j is.numbers) in
    sym read_again ∙ tokens_from_order (print (tree.json_tokens j)) d (j, read_again, is.in_order) none

pub one_value_text : (d : Data) (text : List ℕ) → IsValueText d text → has_float d ≡ false → text ≡ compact_text d
one_value_text d text is none = is.2 ∙ ap print (outlined d is.0 is.1 none) ∙ print-outline d

-- ---- trees

entry_parts : (front key one others : List ℕ) → (front ++ key) ++ (one ++ others) ≡ front ++ ((key ++ one) ++ others)
entry_parts front key one others = simp append_assoc

mutual
  pub one_tree_text : (t : Tree) (text : List ℕ) → IsTreeText t text → IsFloatless t → text ≡ tree_text t
  one_tree_text null text is none = is
  one_tree_text (leaf d) text is none = is.plain none
  one_tree_text (list_of ts) text is none = is.1 ∙ ap (λ s. codes "[" ++ s) (one_elements_text [] ts is.0 is.2 none)
  one_tree_text (object T es) text is none = is.1 ∙ ap (λ s. codes "{" ++ s) (one_entries_text [] es is.0 is.2 none)

  one_elements_text : (front : List ℕ) (ts : Elements) (text : List ℕ) → AreElementsText front ts text → AreFloatless ts → text ≡ elements_text front ts
  one_elements_text front no_element text is none = is
  one_elements_text front (element t ts) text is none =
      let both = is.2 in
      is.1 ∙ ap (λ s. front ++ s) (both.2 ∙ ap₂ (λ one others. one ++ others) (one_tree_text t both.0 both.3 none.0) (one_elements_text comma ts both.1 both.4 none.1))

  one_entries_text : (front : List ℕ) (es : Entries) (text : List ℕ) → AreEntriesText front es text → HaveFloatless es → text ≡ entries_text front es
  one_entries_text front no_entry text is none = is
  one_entries_text front (entry k t es) text is none =
      let both = is.2 in
      is.1 ∙ ap (λ s. (front ++ key_text k) ++ s) (both.2 ∙ ap₂ (λ one others. one ++ others) (one_tree_text t both.0 both.3 none.0) (one_entries_text comma es both.1 both.4 none.1))
      ∙ entry_parts front (key_text k) (tree_text t) (entries_text comma es)

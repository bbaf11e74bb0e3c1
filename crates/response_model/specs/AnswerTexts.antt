-- Texts of responses (GraphQL October 2021, 7.1). A number that isn't whole is written by some numeral that reads as it, and all else in
-- one way, so that there is one text where no leaf holds a float.
use Rattle.std.specs.Prelude.{◌≡◌, ◌≤◌, ℕ, false, List, [], ◌∷◌, ◌++◌, Option, Some, None, codes}
use Rattle.serde_json.specs.Data.{Data, null as json_null, depth}
use Rattle.serde_json.specs.Read.{max_depth}
use Rattle.serde_json.specs.Written.{has_float, compact_text}
use Rattle.response_model.specs.Response.{Tree, null, leaf, list_of, object, Elements, no_element, element, Entries, no_entry, entry}
use Rattle.response_model.specs.Errors.{ResponseError}
use Rattle.response_model.specs.ResponseText.{comma, key_text, errors_part}
use Rattle.response_model.specs.WrittenJson.{IsValueText}

-- The text is one thing, and another behind it.
abbrev pub AreBoth : (List ℕ → Type 0) → (List ℕ → Type 0) → List ℕ → Type 0
AreBoth Is Others text = (one rest : List ℕ) × (text ≡ one ++ rest) × Is one × Others rest

-- This stands in front of the text.
abbrev pub Behind : List ℕ → (List ℕ → Type 0) → List ℕ → Type 0
Behind front Is text = (rest : List ℕ) × (text ≡ front ++ rest) × Is rest

-- A text of a leaf that is nested no deeper than what is read; where it holds no float it is one text, however deep it is.
pub record IsLeafText (json : Data) (text : List ℕ) : Type 0 where
  pub written : depth json ≤ max_depth → IsValueText json text
  pub plain : has_float json ≡ false → text ≡ compact_text json

abbrev mutual
  -- A text of a tree: the entries of an object keep their order.
  pub IsTreeText : Tree → List ℕ → Type 0
  IsTreeText null text = text ≡ compact_text json_null
  IsTreeText (leaf json) text = IsLeafText json text
  IsTreeText (list_of ts) text = Behind (codes "[") (AreElementsText [] ts) text
  IsTreeText (object T es) text = Behind (codes "{") (AreEntriesText [] es) text

  -- The elements and the closing bracket. `front` stands before the first element, and a comma before each other.
  pub AreElementsText : List ℕ → Elements → List ℕ → Type 0
  AreElementsText front no_element text = text ≡ codes "]"
  AreElementsText front (element t ts) text = Behind front (AreBoth (IsTreeText t) (AreElementsText comma ts)) text

  -- The entries and the closing brace, likewise.
  pub AreEntriesText : List ℕ → Entries → List ℕ → Type 0
  AreEntriesText front no_entry text = text ≡ codes "}"
  AreEntriesText front (entry k t es) text = Behind (front ++ key_text k) (AreBoth (IsTreeText t) (AreEntriesText comma es)) text

-- The entry of the data, where there is data, with a comma before it where errors stand before it.
abbrev pub IsDataPart : List ResponseError → Option Tree → List ℕ → Type 0
IsDataPart errors None text = text ≡ []
IsDataPart [] (Some tree) text = Behind (codes "\"data\":") (IsTreeText tree) text
IsDataPart (e ∷ es) (Some tree) text = Behind (codes ",\"data\":") (IsTreeText tree) text

-- The text of a response with data or none, and with these errors.
abbrev pub IsAnswerText : Option Tree → List ResponseError → List ℕ → Type 0
IsAnswerText tree errors text = Behind (codes "{" ++ errors_part errors) (AreBoth (IsDataPart errors tree) (λ rest. rest ≡ codes "}")) text

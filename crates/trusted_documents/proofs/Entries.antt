-- What a list has: each entry is a document under its own hash.
use Rattle.std.proofs.Common.{◌≡◌, ◌≤◌, ◌<◌, ℕ, List, Bool, true, false, cond, nat_lt, nat_cmp, length, Option, Some, None, Result, Ok, Ordering, Less, Equal, Greater, refl, sym, ap, ◌∙◌, subst, arith}
use Rattle.std.proofs.lemmas.Bool.{ltb-true, ltb-false, lt-ltb}
use Rattle.std.proofs.lemmas.Map.Text.{is_eq-slice_cmp}
use Rattle.std.proofs.lemmas.Option.{same_Some}
use Rattle.std.proofs.lemmas.Slice.Eq.{bytes_eq-Decides}
use Rattle.std.specs.Cmp.Lexicographic.{slice_cmp}
use Rattle.std.specs.Option.{option_and_then}
use Rattle.std.specs.Ordering.{match_ordering, is_eq}
use Rattle.serde_json.specs.Data.{Data, null, boolean, number, string, array, object, Members, no_members, member}
use Rattle.serde_json.specs.Events.{members_len}
use Rattle.serde_json.specs.Find.{get, get_member, as_str}
use Rattle.serde_json.specs.Read.{read}
use Rattle.trusted_documents.specs.declared.fault.TrustedFault.{TrustedFault}
use Rattle.trusted_documents.specs.declared.fault.TrustedFault.TheVariants.{TooMany, TooLong, WrongHash, BadHash}
use Rattle.trusted_documents.specs.Hashes.{hash_of, is_hash_of, is_hash}
use Rattle.trusted_documents.specs.DocumentLists.{longest_document, most_documents, document_fault, value_fault, entry_fault, before, entries_fault, members_fault, json_fault, unless, list_in, listed_by, IsDocumentOf, document_under, IsTheOneWith}

-- ---- how many there are

pub too_many : (members : Members) (count : ℕ) → count ≡ members_len members → most_documents < count → Some (TooMany count) ≡ members_fault members
too_many members count is many =
    ap (λ n. Some (TooMany n)) is
    ∙ sym (ap (λ test. cond test (Some (TooMany (members_len members))) (entries_fault members)) (lt-ltb most_documents (members_len members) (omega (arith, is, many))))

pub few_enough : (members : Members) (count : ℕ) → count ≡ members_len members → count ≤ most_documents → members_fault members ≡ entries_fault members
few_enough members count is few = by_test (nat_lt most_documents (members_len members)) refl
  where
    by_test : (test : Bool) → nat_lt most_documents (members_len members) ≡ test → cond test (Some (TooMany (members_len members))) (entries_fault members) ≡ entries_fault members
    by_test true e = absurd (omega (arith, ltb-true most_documents (members_len members) e, is, few))
    by_test false e = refl

-- ---- what is well

module _ (key : List ℕ) where
  document_well : (document : List ℕ) → document_fault key document ≡ None → IsDocumentOf key (string document)
  document_well document well = by_tests (nat_lt longest_document (length document)) (is_hash_of key document) refl refl well
    where
      by_tests : (long same : Bool) → nat_lt longest_document (length document) ≡ long → is_hash_of key document ≡ same → cond long (Some (TooLong key)) (cond same None (Some (WrongHash key))) ≡ None → IsDocumentOf key (string document)
      by_tests true same long_is same_is none = cc
      by_tests false true long_is same_is none = record {
        document = document;
        is_string = refl;
        has_hash = sym ((bytes_eq-Decides key (hash_of document)).0 same_is);
        is_short = ltb-false longest_document (length document) long_is;
      }
      by_tests false false long_is same_is none = cc

  value_well : (value : Data) → value_fault key (as_str value) ≡ None → IsDocumentOf key value
  value_well (string document) well = document_well document well
  value_well null well = cc
  value_well (boolean b) well = cc
  value_well (number n) well = cc
  value_well (array items) well = cc
  value_well (object entries) well = cc

  entry_well : (value : Data) → entry_fault key value ≡ None → IsDocumentOf key value
  entry_well value well = by_test (is_hash key) well
    where
      by_test : (test : Bool) → cond test (value_fault key (as_str value)) (Some (BadHash key)) ≡ None → IsDocumentOf key value
      by_test true none = value_well value none
      by_test false none = cc

neither : (first later : Option TrustedFault) → before first later ≡ None → (first ≡ None) × (later ≡ None)
neither None later none = (refl, none)
neither (Some fault) later none = cc

module _ (hash : List ℕ) where
  found_well : (members : Members) (value : Data) → entries_fault members ≡ None → get_member hash members ≡ Some value → IsDocumentOf hash value
  found_well no_members value well found = cc
  found_well (member key entry rest) value well found = by_order (slice_cmp nat_cmp hash key) refl found (found_well rest value both.1)
    where
      both : (entry_fault key entry ≡ None) × (entries_fault rest ≡ None)
      both = neither (entry_fault key entry) (entries_fault rest) well

      by_order : (order : Ordering) → slice_cmp nat_cmp hash key ≡ order → match_ordering order (get_member hash rest) (Some entry) (get_member hash rest) ≡ Some value → (get_member hash rest ≡ Some value → IsDocumentOf hash value) → IsDocumentOf hash value
      by_order Less is found later = later found
      by_order Greater is found later = later found
      by_order Equal is found later =
          let same : hash ≡ key = (bytes_eq-Decides hash key).0 (sym (is_eq-slice_cmp hash key) ∙ ap is_eq is) in
          subst (λ k. IsDocumentOf k value) (sym same) (subst (IsDocumentOf key) (same_Some entry value found) (entry_well key entry both.0))

  among_well : (members : Members) → members_fault members ≡ None → entries_fault members ≡ None
  among_well members well = by_test (nat_lt most_documents (members_len members)) well
    where
      by_test : (test : Bool) → cond test (Some (TooMany (members_len members))) (entries_fault members) ≡ None → entries_fault members ≡ None
      by_test true none = cc
      by_test false none = none

  json_well : (json value : Data) → json_fault json ≡ None → get hash json ≡ Some value → IsDocumentOf hash value
  json_well (object members) value well found = found_well members value (among_well members well) found
  json_well null value well found = cc
  json_well (boolean b) value well found = cc
  json_well (number n) value well found = cc
  json_well (string s) value well found = cc
  json_well (array items) value well found = cc

same_list : (json documents : Data) → ◌≡◌ {A = Result Data TrustedFault} (Ok json) (Ok documents) → json ≡ documents
same_list json documents e = cc

well : (fault : Option TrustedFault) (json documents : Data) → unless fault json ≡ Ok documents → (fault ≡ None) × (json ≡ documents)
well None json documents e = (refl, same_list json documents e)
well (Some fault) json documents e = cc

-- whatever a list has under a hash is a document with this hash
pub held : (text hash : List ℕ) (documents value : Data) → listed_by text ≡ Ok documents → get hash documents ≡ Some value → IsDocumentOf hash value
held text hash documents value listed found = by_read (read text) listed
  where
    by_read : (json : Option Data) → list_in json ≡ Ok documents → IsDocumentOf hash value
    by_read None e = cc
    by_read (Some json) e =
        let parts = well (json_fault json) json documents e in
        json_well hash json value parts.0 (ap (get hash) parts.1 ∙ found)

-- so has what is looked up
pub hash_held : (text hash document : List ℕ) (documents : Data) → listed_by text ≡ Ok documents → document_under documents hash ≡ Some document → hash_of document ≡ hash
hash_held text hash document documents listed found = by_value (get hash documents) refl found
  where
    by_value : (value : Option Data) → get hash documents ≡ value → option_and_then as_str value ≡ Some document → hash_of document ≡ hash
    by_value None is e = cc
    by_value (Some value) is e =
        let entry = held text hash documents value listed is in
        let same : entry.document ≡ document = same_Some entry.document document (ap as_str (sym entry.is_string) ∙ e) in
        ap hash_of (sym same) ∙ entry.has_hash

-- and no other listed document has it
pub one_held : (text hash document : List ℕ) (documents : Data) → listed_by text ≡ Ok documents → document_under documents hash ≡ Some document → IsTheOneWith documents hash document
one_held text hash document documents listed found key other found_too same =
    let keys : key ≡ hash = sym (hash_held text key other documents listed found_too) ∙ same in
    same_Some other document (sym found_too ∙ (ap (document_under documents) keys ∙ found))

-- Lists of trusted documents: a text that is one JSON object (RFC 8259) with each document under its hash.
use Rattle.std.specs.Prelude.{◌≡◌, ◌≤◌, ℕ, nat_lt, List, length, Option, Some, None, Result, Ok, Err, if◌then◌else◌, option_and_then}
use Rattle.serde_json.specs.Data.{Data, string, object, Members, no_members, member}
use Rattle.serde_json.specs.Events.{members_len}
use Rattle.serde_json.specs.Find.{as_str, get}
use Rattle.serde_json.specs.Read.{read}
use Rattle.trusted_documents.specs.declared.fault.TrustedFault.{TrustedFault}
use Rattle.trusted_documents.specs.declared.fault.TrustedFault.TheVariants.{NotJson, NotObject, TooMany, BadHash, NotString, TooLong, WrongHash}
use Rattle.trusted_documents.specs.Hashes.{hash_of, is_hash_of, is_hash}

-- how many documents a list may have
abbrev pub most_documents : ℕ
most_documents = 10000

-- how many bytes a document may have
abbrev pub longest_document : ℕ
longest_document = 262144

-- what is wrong with a document under a key that has the form of a hash
abbrev pub document_fault : List ℕ → List ℕ → Option TrustedFault
document_fault key document =
    if nat_lt longest_document (length document) then Some (TooLong key)
    else if is_hash_of key document then None
    else Some (WrongHash key)

-- what is wrong with a value under such a key, by its string if it is one
abbrev pub value_fault : List ℕ → Option (List ℕ) → Option TrustedFault
value_fault key None = Some (NotString key)
value_fault key (Some document) = document_fault key document

-- what is wrong with an entry
abbrev pub entry_fault : List ℕ → Data → Option TrustedFault
entry_fault key value = if is_hash key then value_fault key (as_str value) else Some (BadHash key)

-- a fault, or else what comes later
abbrev pub before : Option TrustedFault → Option TrustedFault → Option TrustedFault
before (Some fault) later = Some fault
before None later = later

-- the fault of the first entry at fault, in the order of the keys
abbrev pub entries_fault : Members → Option TrustedFault
entries_fault no_members = None
entries_fault (member key value rest) = before (entry_fault key value) (entries_fault rest)

-- what is wrong with the entries of an object
abbrev pub members_fault : Members → Option TrustedFault
members_fault members = if nat_lt most_documents (members_len members) then Some (TooMany (members_len members)) else entries_fault members

-- what is wrong with JSON
abbrev pub json_fault : Data → Option TrustedFault
json_fault (object members) = members_fault members
json_fault other = Some NotObject

-- JSON, where nothing is wrong with it
abbrev pub unless : Option TrustedFault → Data → Result Data TrustedFault
unless (Some fault) json = Err fault
unless None json = Ok json

-- the JSON that was read of a text, as a list
abbrev pub list_in : Option Data → Result Data TrustedFault
list_in None = Err NotJson
list_in (Some json) = unless (json_fault json) json

-- The documents that a text lists, or its first fault. Of equal keys in the text the last one counts.
abbrev pub listed_by : List ℕ → Result Data TrustedFault
listed_by text = list_in (read text)

-- what a list has under a hash: a document with this hash that is not too long
pub record IsDocumentOf (hash : List ℕ) (value : Data) : Type 0 where
  pub document : List ℕ
  pub is_string : value ≡ string document
  pub has_hash : hash_of document ≡ hash
  pub is_short : length document ≤ longest_document

-- the document that is listed under a hash
abbrev pub document_under : Data → List ℕ → Option (List ℕ)
document_under documents hash = option_and_then as_str (get hash documents)

-- the listed document with this hash is this one
abbrev pub IsTheOneWith : Data → List ℕ → List ℕ → Type 0
IsTheOneWith documents hash document = (key other : List ℕ) → document_under documents key ≡ Some other → hash_of other ≡ hash → other ≡ document

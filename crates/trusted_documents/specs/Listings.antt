-- What an object comes to by a list: a document is put in for its query, it stays as it is, or it is refused.
use Rattle.std.specs.Prelude.{◌≡◌, ℕ, Bool, false, ◌&&◌, not, List, Option, Some, None, Result, Ok, Err, if◌then◌else◌, codes, option_map}
use Rattle.std.specs.Str.{bytes_eq}
use Rattle.std.specs.Borrow.{Bor}
use Rattle.serde_json.specs.Data.{Data, null, string}
use Rattle.serde_json.specs.View.{view}
use Rattle.request_bodies.specs.Bodies.{entry}
use Rattle.trusted_documents.specs.declared.fault.ExpandFault.{ExpandFault}
use Rattle.trusted_documents.specs.declared.fault.ExpandFault.TheVariants.{HashMismatch, UnknownHash, NotTrusted}
use Rattle.trusted_documents.specs.declared.listing.Trusted.{Trusted}
use Rattle.trusted_documents.specs.Hashes.{hash_of, is_hash_of}
use Rattle.trusted_documents.specs.DocumentLists.{document_under}
use Rattle.trusted_documents.specs.PersistedQueries.{hash_named}

-- a list as contracts see it: the documents under their hashes, and whether no other is taken
pub record Listing : Type 0 where
  pub documents : Data
  pub only : Bool

abbrev pub listing_of : Trusted → Listing
listing_of trusted = record { documents = view trusted.documents; only = trusted.only }

-- the list that a gateway has, if it has one
abbrev pub listing_in : Option (Bor Trusted) → Option Listing
listing_in trusted = option_map (λ t. listing_of t.now) trusted

-- whether a text that may be none is this one
abbrev pub is_this : List ℕ → Option (List ℕ) → Bool
is_this query None = false
is_this query (Some document) = bytes_eq query document

-- whether a query is a listed document, letter for letter
abbrev pub is_trusted : Data → List ℕ → Bool
is_trusted documents query = is_this query (document_under documents (hash_of query))

-- an object with a query of its own stays as it is, unless only listed documents are taken
abbrev pub with_own_query : Listing → List ℕ → Result (Option (List ℕ)) ExpandFault
with_own_query l query = if l.only && not (is_trusted l.documents query) then Err NotTrusted else Ok None

-- the document that was found under a hash
abbrev pub found_under_hash : Option (List ℕ) → Result (Option (List ℕ)) ExpandFault
found_under_hash None = Err UnknownHash
found_under_hash (Some document) = Ok (Some document)

-- an object that names a document, by what stands as its query
abbrev pub with_hash : Listing → List ℕ → Data → Result (Option (List ℕ)) ExpandFault
with_hash l hash null = found_under_hash (document_under l.documents hash)
with_hash l hash (string query) = if is_hash_of hash query then with_own_query l query else Err HashMismatch
with_hash l hash other = Ok None

-- an object that names none
abbrev pub without_hash : Listing → Data → Result (Option (List ℕ)) ExpandFault
without_hash l (string query) = with_own_query l query
without_hash l other = Ok None

-- an object by what stands as its query, and by the hash that it gives; a fault of the extension comes first
abbrev pub by_hash : Listing → Data → Result (Option (List ℕ)) ExpandFault → Result (Option (List ℕ)) ExpandFault
by_hash l query (Err fault) = Err fault
by_hash l query (Ok None) = without_hash l query
by_hash l query (Ok (Some hash)) = with_hash l hash query

-- The document that is put into an object for its query, none where the object stays as it is, or why it is refused.
abbrev pub document_for : Listing → Data → Result (Option (List ℕ)) ExpandFault
document_for l json = by_hash l (entry (codes "query") json) (hash_named json)

-- the object has no query, and names this document, which is listed, by its hash
pub record Names (documents : Data) (json : Data) (document : List ℕ) : Type 0 where
  pub hash : List ℕ
  pub is_named : hash_named json ≡ Ok (Some hash)
  pub no_query : entry (codes "query") json ≡ null
  pub is_listed : document_under documents hash ≡ Some document

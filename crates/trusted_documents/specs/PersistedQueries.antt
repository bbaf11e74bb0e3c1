-- The extension of a request that names a document by its hash: `persistedQuery` with `version` 1 and `sha256Hash`.
use Rattle.std.specs.Prelude.{ℕ, Bool, true, false, ◌==◌, List, Option, Some, None, Result, Ok, Err, codes, option_and_then}
use Rattle.serde_json.specs.Data.{Data, null}
use Rattle.serde_json.specs.Find.{as_str, as_number, as_u64}
use Rattle.request_bodies.specs.Bodies.{entry}
use Rattle.trusted_documents.specs.declared.fault.ExpandFault.{ExpandFault}
use Rattle.trusted_documents.specs.declared.fault.ExpandFault.TheVariants.{BadExtension}

-- whether a whole number that may be none is 1
abbrev pub is_one : Option ℕ → Bool
is_one None = false
is_one (Some number) = number == 1

-- whether the version is the whole number 1
abbrev pub has_version_one : Data → Bool
has_version_one extension = is_one (option_and_then as_u64 (as_number (entry (codes "version") extension)))

-- the hash of an extension that has the version or hasn't
abbrev pub hash_where : Bool → Option (List ℕ) → Result (Option (List ℕ)) ExpandFault
hash_where true (Some hash) = Ok (Some hash)
hash_where true None = Err BadExtension
hash_where false hash = Err BadExtension

-- the hash of an extension; null is none
abbrev pub hash_in : Data → Result (Option (List ℕ)) ExpandFault
hash_in null = Ok None
hash_in extension = hash_where (has_version_one extension) (as_str (entry (codes "sha256Hash") extension))

-- The hash by which an object names a document, if it does. What isn't there counts as null.
abbrev pub hash_named : Data → Result (Option (List ℕ)) ExpandFault
hash_named json = hash_in (entry (codes "persistedQuery") (entry (codes "extensions") json))

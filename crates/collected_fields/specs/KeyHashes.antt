-- Hashes of the starts of what is written.
use Rattle.std.specs.Prelude.{ℕ, List, take}
use Rattle.std.specs.Hash.DefaultHasher as sip
use Rattle.collected_fields.specs.declared.key_hashing.StartHasher.{StartHasher}

abbrev pub start_of : List ℕ → List ℕ
start_of bytes = take 4096 bytes

abbrev pub written_on : StartHasher → List ℕ → StartHasher
written_on h bytes = record { inner = sip.write h.inner (start_of bytes) }

abbrev pub hash_so_far : StartHasher → ℕ
hash_so_far h = sip.finish h.inner

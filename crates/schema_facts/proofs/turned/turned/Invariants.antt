use Rattle.std.proofs.Common.{◌≡◌, drop, map, length}
use Rattle.schema_facts.specs.Facts.{numbers_in}
use Rattle.schema_facts.specs.Turning.{put_lists, nones}
use Rattle.schema_facts.proofs.turned.turned.Given as goal

abbrev pub invariant-lists : goal.invariant-lists
invariant-lists l = put_lists l.number (map numbers_in (drop l.number l.lists)) (map numbers_in l.found.items) ≡ put_lists 0 (map numbers_in l.lists) (nones (length l.lists))

use Rattle.std.proofs.Common.{◌≡◌, drop, map}
use Rattle.schema_facts.specs.Facts.{numbers_in}
use Rattle.schema_facts.specs.Turning.{put_each}
use Rattle.schema_facts.proofs.turned.put_each.Given as goal

abbrev pub invariant-places : goal.invariant-places
invariant-places l = put_each (drop l.place-index l.places) l.number (map numbers_in l.lists.items) ≡ put_each l.places l.number (map numbers_in l.fn.lists.items)

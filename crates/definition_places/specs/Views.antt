-- What a walk has seen, as data.
use Rattle.schema_rules.specs.Views.{maybe_place}
use Rattle.definition_places.specs.declared.walk.Walk.{Walk}
use Rattle.definition_places.specs.Sites.{Seen}

abbrev pub walk_seen : Walk → Seen
walk_seen w = record { depth = w.depth; last = w.last; lead = w.lead.now; outer = w.outer; owner = maybe_place w.owner; field = maybe_place w.field }

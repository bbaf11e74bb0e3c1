-- The segments that are left answer as all.
use Rattle.std.proofs.Common.{◌≡◌, drop, is_some}
use Rattle.serde_json.specs.View.{items_view}
use Rattle.response_model.specs.Errors.{segments_of}
use Rattle.response_meter.proofs.errors.are_segments.Given as goal

abbrev pub invariant-segments : goal.invariant-segments
invariant-segments l = is_some (segments_of (items_view (drop l.segment-index l.segments))) ≡ is_some (segments_of (items_view l.segments))

use Rattle.std.proofs.Common.{◌≡◌}
use Rattle.serde_json.specs.View.{members_view}
use Rattle.trusted_documents.specs.DocumentLists.{entries_fault}
use Rattle.trusted_documents.proofs.listing.check_entries.Given as goal

abbrev pub invariant-loop-key : goal.invariant-loop-key
invariant-loop-key l = entries_fault (members_view l.key-iterator) ≡ entries_fault (members_view l.members.entries)

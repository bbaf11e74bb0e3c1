-- The record that a disk in memory keeps, as a list of calls.
use Rattle.journal_disk.specs.declared.mem_disk.DiskCall.{DiskCall}
use Rattle.journal_disk.specs.declared.mem_disk.DiskCall.TheVariants.{Wrote, Synced}
use Rattle.journal_disk.specs.Calls.{Call, wrote, synced}

abbrev pub call_of : DiskCall → Call
call_of (Wrote at piece) = wrote at piece.items
call_of Synced = synced

use Rattle.response_meter.specs.Reply.{IsReadable, first_reply_fault}
use Rattle.response_meter.proofs.Exact.{fault_or_reads, refused_only}
use Rattle.response_meter.proofs.laws.fault_or_reading.Goals as goal

pub returns-clause-passes : goal.returns-clause-passes
returns-clause-passes c holds name alias plan bytes named = fault_or_reads holds name alias plan bytes named

pub returns-clause-refused : goal.returns-clause-refused
returns-clause-refused c holds name alias plan bytes named =
    refused_only (first_reply_fault holds name alias plan bytes) (IsReadable holds name alias plan bytes) (fault_or_reads holds name alias plan bytes named)

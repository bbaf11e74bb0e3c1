use Rattle.std.proofs.Common.{ap, arith}
use Rattle.account_journal.specs.Records.{record_of}
use Rattle.account_journal.proofs.Spelling.{header_is_none}
use Rattle.account_journal.proofs.Taking.{listed_header}
use Rattle.account_journal.proofs.reading.Reading.take_body.Goals as goal

pub returns-then-self-eq0-clause-lists : goal.returns-then-self-eq0-clause-lists
returns-then-self-eq0-clause-lists c hs lists =
    listed_header c.args.limits.now c.args.self.now.accounts.items c.take_header.new.self.accounts.items c.args.self.now.used c.take_header.new.self.used c.args.self.now.opens.items c.take_header.new.self.opens.items hs (record_of c.args.body.now) lists
    (ap (λ v. v.items) c.take_header.ensures.accounts) (ap (λ v. v.items) c.take_header.ensures.opens) (omega (arith, c.if-self-eq0.true)) (header_is_none c.args.body.now c.in_ok-take_header.ensures.header)

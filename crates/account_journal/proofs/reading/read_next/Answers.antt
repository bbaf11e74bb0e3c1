use Rattle.std.proofs.Common.{◌∙◌, ◌*◌, ◌++◌, List, ℕ, drop, sym, subst, Option}
use Rattle.account_journal.specs.Records.{record_of}
use Rattle.account_journal.specs.Slots.{bodies, IsSlotRead}
use Rattle.account_journal.specs.Histories.{entries_of}
use Rattle.account_journal.specs.Reading.{HasReadSlots, HasEntries}
use Rattle.account_journal.proofs.Present.{present_at, absent_at}
use Rattle.account_journal.proofs.Going.{read_more, read_refused}
use Rattle.account_journal.proofs.reading.read_next.Goals as goal

pub returns-in-Ok-None-clause-goes : goal.returns-in-Ok-None-clause-goes
returns-in-Ok-None-clause-goes g c b told = absent_at c.args.reading.now.used b (c.requires.read.told b told).within
    (subst (λ (o : Option (List ℕ)). IsSlotRead o (drop (64 * c.args.reading.now.used) b)) c.in-Ok-None.field-0-is (c.in-Ok-None.ensures.looked b told))

pub returns-in-Err-take_body-clause-refused : goal.returns-in-Err-take_body-clause-refused
returns-in-Err-take_body-clause-refused g c b told =
    let r = c.requires.read.told b told in
    let looked = subst (λ (o : Option (List ℕ)). IsSlotRead o (drop (64 * c.args.reading.now.used) b)) c.in-Ok-Some.field-0-is (c.in-Ok-Some.ensures.looked b told) in
    let slot = present_at c.args.reading.now.used b r.within looked.0 in
    read_refused c.args.limits.now c.args.mark.now (bodies b) c.args.reading.now.used c.requires.read.list r c.in-Ok-Some.body slot.0 (slot.1 ∙ sym looked.1) c.in-Err-take_body.fault
    (HasEntries c.args.limits.now c.args.reading.now) c.requires.read.lists c.in-Err-take_body.ensures.refused

pub returns-in-Ok-clause-read : goal.returns-in-Ok-clause-read
returns-in-Ok-clause-read g c =
    let used = c.args.reading.now.used in
    let list = c.requires.read.list in
    let body = c.in-Ok-Some.body in
    record {
      list = list ++ entries_of list used (record_of body);
      lists = c.in-Ok.ensures.lists list c.requires.read.lists;
      told = λ b told.
          let r = c.requires.read.told b told in
          let looked = subst (λ (o : Option (List ℕ)). IsSlotRead o (drop (64 * c.args.reading.now.used) b)) c.in-Ok-Some.field-0-is (c.in-Ok-Some.ensures.looked b told) in
          let slot = present_at used b r.within looked.0 in
          subst (λ (n : ℕ). HasReadSlots c.args.limits.now c.args.mark.now (bodies b) n (list ++ entries_of list used (record_of body))) (sym c.in-Ok.ensures.used)
          (read_more c.args.limits.now c.args.mark.now (bodies b) used list r body slot.0 (slot.1 ∙ sym looked.1) (c.in-Ok.ensures.good list c.requires.read.lists) c.in-Ok.ensures.mark);
    }

use Rattle.std.proofs.Common.{ℕ, [], refl, sym, subst, arith}
use Rattle.account_journal.specs.Slots.{bodies}
use Rattle.account_journal.specs.Reading.{HasReadSlots}
use Rattle.journal_disk.proofs.Moments.{started}
use Rattle.account_journal.proofs.Going.{read_begun}
use Rattle.account_journal.proofs.reading.read_slots.Goals as goal

pub slots-init : goal.slots-init
slots-init g c = record {
  reading = c.in_ok-reading.ensures.reading;
  read = record {
    list = [];
    lists = c.in_ok-reading.ensures.lists;
    told = λ b told. subst (λ (n : ℕ). HasReadSlots c.args.limits.now c.args.mark.now (bodies b) n []) (sym c.in_ok-reading.ensures.used) (read_begun c.args.limits.now c.args.mark.now (bodies b));
  };
  same = refl;
  images = λ x now. now;
  moments = started g.D.Disk.moment g.D.Disk.image_since c.args.disk.now (g.D.Disk.image c.args.disk.now) (λ x left. g.met.D.Disk.since_now c.args.disk.now x left);
  count = omega arith;
}

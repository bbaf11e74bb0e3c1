use Rattle.std.proofs.Common.{◌≡◌, ◌*◌, ◌∷◌, [], ℕ, List, Bool, drop, subst, sym, ◌∙◌, ap, refl}
use Rattle.journal_disk.specs.Images.{written_at, written_where_told}
use Rattle.journal_disk.proofs.Moments.{started, goes_on, weaker, then_on}
use Rattle.account_journal.specs.Slots.{bodies, IsGateRead}
use Rattle.account_journal.proofs.Present.{slots_inside, gap, torn_shut, shut_rests, shut_same, gate_rests}
use Rattle.account_journal.proofs.slots.shut_gate.Goals as goal

pub write_through-requires : goal.write_through-requires
write_through-requires g c = record { inside = λ b told. slots_inside b c.args.used (c.requires.all b (sym c.in_ok-shut.ensures.same ∙ told)) }

pub returns-in_err-write_through-clause-any_moment : goal.returns-in_err-write_through-clause-any_moment
returns-in_err-write_through-clause-any_moment g c b told only =
    let all = c.requires.all b told in
    let mid = c.has_shut_gate.new.disk in
    let P = λ (x : List ℕ). bodies x ≡ bodies b in
    let short = gap b c.args.used all (subst (λ (t : Bool). IsGateRead t (drop (64 * c.args.used) b)) c.if-not-shut.true (c.in_ok-shut.ensures.gate b told)) in
    let first = goes_on g.D.Disk.moment g.D.Disk.image_since c.args.disk.now c.args.disk.now mid P (g.D.Disk.image mid)
    (started g.D.Disk.moment g.D.Disk.image_since c.args.disk.now P (λ x left. ap bodies (only x (g.met.D.Disk.since_now c.args.disk.now x left)))) c.in_ok-shut.ensures.time
    (λ x now. ap bodies (only x (c.in_ok-shut.ensures.images x now))) in
    then_on g.D.Disk.moment g.D.Disk.image_since _ _ _ P first
    (weaker g.D.Disk.moment g.D.Disk.image_since _ _ _ P (λ x. torn_shut b c.args.used all x short) (c.write_through.ensures.any_moment b (λ x now. only x (c.in_ok-shut.ensures.images x now))))

pub returns-in_ok-write_through-clause-any_moment : goal.returns-in_ok-write_through-clause-any_moment
returns-in_ok-write_through-clause-any_moment g c b told only =
    let all = c.requires.all b told in
    let mid = c.has_shut_gate.new.disk in
    let P = λ (x : List ℕ). bodies x ≡ bodies b in
    let short = gap b c.args.used all (subst (λ (t : Bool). IsGateRead t (drop (64 * c.args.used) b)) c.if-not-shut.true (c.in_ok-shut.ensures.gate b told)) in
    let first = goes_on g.D.Disk.moment g.D.Disk.image_since c.args.disk.now c.args.disk.now mid P (g.D.Disk.image mid)
    (started g.D.Disk.moment g.D.Disk.image_since c.args.disk.now P (λ x left. ap bodies (only x (g.met.D.Disk.since_now c.args.disk.now x left)))) c.in_ok-shut.ensures.time
    (λ x now. ap bodies (only x (c.in_ok-shut.ensures.images x now))) in
    then_on g.D.Disk.moment g.D.Disk.image_since _ _ _ P first
    (weaker g.D.Disk.moment g.D.Disk.image_since _ _ _ P (λ x. torn_shut b c.args.used all x short) (c.write_through.ensures.any_moment b (λ x now. only x (c.in_ok-shut.ensures.images x now))))

pub returns-in_ok-write_through-clause-rest : goal.returns-in_ok-write_through-clause-rest
returns-in_ok-write_through-clause-rest g c b told only =
    let all = c.requires.all b told in
    record {
      file = written_at (64 * c.args.used) (0 ∷ []) b;
      told = c.in_ok-write_through.ensures.written ∙ ap (written_where_told (64 * c.args.used) (0 ∷ [])) (c.in_ok-shut.ensures.same ∙ told);
      rest = shut_rests b c.args.used all;
      same = shut_same b c.args.used all;
      durable = c.in_ok-write_through.ensures.durable b (c.in_ok-shut.ensures.same ∙ told);
    }

pub returns-else-not-shut-clause-rest : goal.returns-else-not-shut-clause-rest
returns-else-not-shut-clause-rest g c b told only =
    let all = c.requires.all b told in
    record {
      file = b;
      told = c.in_ok-shut.ensures.same ∙ told;
      rest = gate_rests b c.args.used all (subst (λ (t : Bool). IsGateRead t (drop (64 * c.args.used) b)) c.if-not-shut.false (c.in_ok-shut.ensures.gate b told));
      same = refl;
      durable = λ x now. only x (c.in_ok-shut.ensures.images x now);
    }

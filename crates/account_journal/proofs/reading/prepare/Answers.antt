use Rattle.std.proofs.Common.{◌≡◌, ◌∙◌, ◌++◌, ◌∷◌, [], List, ℕ, length, ap, sym, subst, arith}
use Rattle.account_journal.specs.Slots.{bodies, IsAtRest, HoldsSlots, HasSlotOrNot}
use Rattle.account_journal.specs.Records.{header_bytes}
use Rattle.account_journal.specs.Histories.{replayed, history_in}
use Rattle.journal_disk.proofs.Moments.{weaker, then_on}
use Rattle.account_journal.proofs.Longer.{told_before}
use Rattle.account_journal.proofs.Following.{stands_past}
use Rattle.account_journal.proofs.Ready.{rests_told, kept_read, list_is, whole_is, stored_header, header_crash}
use Rattle.account_journal.proofs.reading.prepare.Goals as goal

pub returns-then-reading-ne0-clause-prepared : goal.returns-then-reading-ne0-clause-prepared
returns-then-reading-ne0-clause-prepared g c =
    let r = c.in-Ok.ensures.read in
    let limits = c.args.limits.now in
    record {
      list = r.list;
      lists = r.lists;
      told = λ b told.
          let all = c.in-Ok.ensures.all b told in
          (list_is limits c.args.mark.now b c.in-Ok.reading.used r.list all (r.told b told), omega (arith, all, c.if-reading-ne0.true), whole_is limits c.args.mark.now b c.in-Ok.reading.used r.list all (r.told b told));
      kept = kept_read (g.D.Disk.reads c.args.disk.now) (g.D.Disk.reads c.read_and_shut.new.disk) (g.D.Disk.image c.read_and_shut.new.disk) c.in-Ok.reading.used bodies r.list c.in-Ok.ensures.rest
          (λ b told. sym (list_is limits c.args.mark.now b c.in-Ok.reading.used r.list (c.in-Ok.ensures.all b told) (r.told b told))) c.read_and_shut.ensures.tells;
    }

pub append-requires-clause-rest : goal.append-requires-clause-rest
append-requires-clause-rest g c x told =
    let b = told_before (g.D.Disk.reads c.args.disk.now) (g.D.Disk.reads c.read_and_shut.new.disk) x c.read_and_shut.ensures.tells told in
    subst (λ (n : ℕ). IsAtRest n x) c.if-reading-ne0.false (rests_told (g.D.Disk.reads c.read_and_shut.new.disk) (g.D.Disk.image c.read_and_shut.new.disk) c.in-Ok.reading.used (bodies b.0) (c.in-Ok.ensures.rest b.0 b.1) x told).0

pub returns-in-Err-append-clause-any_moment : goal.returns-in-Err-append-clause-any_moment
returns-in-Err-append-clause-any_moment g c b told =
    let r = c.in-Ok.ensures.rest b told in
    then_on g.D.Disk.moment g.D.Disk.image_since _ _ _ (λ x. history_in x ≡ history_in b)
    (weaker g.D.Disk.moment g.D.Disk.image_since _ _ _ (λ x. history_in x ≡ history_in b) (λ x same. ap (replayed [] 0) same) (c.read_and_shut.ensures.any_moment b told))
    (weaker g.D.Disk.moment g.D.Disk.image_since _ _ _ (λ x. history_in x ≡ history_in b)
    (λ x is. header_crash (bodies r.file) c.args.mark.now x c.told-mark (subst (λ (h : List ℕ). HasSlotOrNot (bodies r.file) h x) c.header_bytes.ensures is) ∙ ap (replayed [] 0) r.same) (c.append.ensures.any_moment r.file r.told r.durable))

pub returns-in-Ok-append-clause-any_moment : goal.returns-in-Ok-append-clause-any_moment
returns-in-Ok-append-clause-any_moment g c b told =
    let r = c.in-Ok.ensures.rest b told in
    then_on g.D.Disk.moment g.D.Disk.image_since _ _ _ (λ x. history_in x ≡ history_in b)
    (weaker g.D.Disk.moment g.D.Disk.image_since _ _ _ (λ x. history_in x ≡ history_in b) (λ x same. ap (replayed [] 0) same) (c.read_and_shut.ensures.any_moment b told))
    (weaker g.D.Disk.moment g.D.Disk.image_since _ _ _ (λ x. history_in x ≡ history_in b)
    (λ x is. header_crash (bodies r.file) c.args.mark.now x c.told-mark (subst (λ (h : List ℕ). HasSlotOrNot (bodies r.file) h x) c.header_bytes.ensures is) ∙ ap (replayed [] 0) r.same) (c.append.ensures.any_moment r.file r.told r.durable))

pub returns-in-Ok-append-clause-prepared : goal.returns-in-Ok-append-clause-prepared
returns-in-Ok-append-clause-prepared g c =
    let r = c.in-Ok.ensures.read in
    let limits = c.args.limits.now in
    let used = c.in-Ok.reading.used in
    record {
      list = r.list;
      lists = record { stands = stands_past limits c.in-Ok.reading.accounts.items used 1 (length c.in-Ok.reading.opens.items) r.list (omega (arith, c.if-reading-ne0.false)) r.lists.stands; leaves = r.lists.leaves };
      told = λ b told.
          let all = c.in-Ok.ensures.all b told in
          (list_is limits c.args.mark.now b used r.list all (r.told b told), omega (arith, all, c.if-reading-ne0.false), whole_is limits c.args.mark.now b used r.list all (r.told b told));
      kept = kept_read (g.D.Disk.reads c.args.disk.now) (g.D.Disk.reads c.append.new.disk) (g.D.Disk.image c.append.new.disk) 1 (λ b. bodies b ++ header_bytes c.args.mark.now ∷ []) r.list
          (λ b told. let s = c.in-Ok.ensures.rest b told in
          subst (λ (h : List ℕ). HoldsSlots (g.D.Disk.reads c.append.new.disk) (g.D.Disk.image c.append.new.disk) 1 (bodies b ++ h ∷ [])) c.header_bytes.ensures
          (subst (λ (xs : List (List ℕ)). HoldsSlots (g.D.Disk.reads c.append.new.disk) (g.D.Disk.image c.append.new.disk) 1 (xs ++ c.header_bytes.result ∷ [])) s.same (c.in-Ok-append.ensures.rest s.file s.told)))
          (λ b told. stored_header (bodies b) c.args.mark.now c.told-mark ∙ sym (list_is limits c.args.mark.now b used r.list (c.in-Ok.ensures.all b told) (r.told b told)))
          (c.append.ensures.tells ∙ c.read_and_shut.ensures.tells);
    }

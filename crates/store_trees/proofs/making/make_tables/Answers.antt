use Rattle.std.proofs.Common.{inl, inr, sym, subst}
use Rattle.std.proofs.lemmas.Result.{err_from_is_err_and}
use Rattle.sqlite_trees.specs.Tree.{Trees}
use Rattle.store_trees.specs.Making.{AreMade}
use Rattle.store_trees.proofs.Sequences.{was_clean, clean_if_sound}
use Rattle.store_trees.proofs.Tablings.{tables_made}
use Rattle.store_trees.proofs.Refusals.{caused, fails_since}
use Rattle.store_trees.proofs.making.make_tables.Goals as goal

pub returns-clause-tables : goal.returns-clause-tables
returns-clause-tables g c =
    tables_made (g.S.Store.view c.make_all.new.store) (g.S.Store.view c.commit.new.self) c.commit.ensures.clean c.in_ok-make_all.ensures.shapes c.in_ok-make_all.ensures.numbered c.in_ok-commit.ensures.frame

pub returns-clause-crash : goal.returns-clause-crash
returns-clause-crash g c db left = elim (c.commit.ensures.crash db left) [
  | inl made ↦
      let mid = g.S.Store.view c.make_all.new.store in
      let clean = clean_if_sound mid (g.met.S.Store.shut_if_dirty c.make_all.new.store) (g.met.S.Store.broken_if_shut c.make_all.new.store) made.0 in
      inl (was_clean (g.S.Store.view c.args.store.now) mid c.make_all.ensures.quiet.clean clean, subst (λ (t : Trees). AreMade t c.args.seconds) (sym made.1) (c.in_ok-make_all.ensures.made clean))
  | inr before ↦ inr (c.make_all.ensures.quiet.outcomes db before)
]

pub returns-in_err-commit-clause-crash : goal.returns-in_err-commit-clause-crash
returns-in_err-commit-clause-crash g c db left = elim (c.commit.ensures.crash db left) [
  | inl made ↦
      let mid = g.S.Store.view c.make_all.new.store in
      let clean = clean_if_sound mid (g.met.S.Store.shut_if_dirty c.make_all.new.store) (g.met.S.Store.broken_if_shut c.make_all.new.store) made.0 in
      inl (was_clean (g.S.Store.view c.args.store.now) mid c.make_all.ensures.quiet.clean clean, subst (λ (t : Trees). AreMade t c.args.seconds) (sym made.1) (c.in_ok-make_all.ensures.made clean))
  | inr before ↦ inr (c.make_all.ensures.quiet.outcomes db before)
]

pub returns-in_err-make_all-clause-cause : goal.returns-in_err-make_all-clause-cause
returns-in_err-make_all-clause-cause g c =
    let p = err_from_is_err_and c.from_residual.result c.from_residual.ensures.1 in
    rw (p.1, p.2) c.in_err-make_all.ensures.cause

pub returns-in_err-commit-clause-cause : goal.returns-in_err-commit-clause-cause
returns-in_err-commit-clause-cause g c =
    let p = err_from_is_err_and c.from_residual-in_err-commit.result c.from_residual-in_err-commit.ensures.1 in
    rw (p.1, p.2) (λ clean.
    let view = g.S.Store.view in
    let faults = g.S.Store.faults in
    let start = c.args.store.now in
    let mid = c.make_all.new.store in
    let new = c.commit.new.self in
    let now = was_clean (view mid) (view new) c.commit.ensures.clean clean in
    let was = was_clean (view start) (view mid) c.make_all.ensures.quiet.clean now in
    fails_since view faults start mid new _ (c.requires.blank was).sound (c.in_ok-make_all.ensures.sound now) c.make_all.ensures.quiet.counts (caused (view mid) (faults mid) (faults new) _ (c.in_err-commit.ensures.cause clean)))

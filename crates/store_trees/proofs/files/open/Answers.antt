use Rattle.std.proofs.Common.{sym, subst}
use Rattle.sqlite_store.specs.FileStore.{view}
use Rattle.sqlite_wal.specs.Files.{image_at}
use Rattle.store_trees.specs.Files.{WasIn}
use Rattle.store_trees.proofs.Sequences.{was_clean}
use Rattle.store_trees.proofs.files.open.Goals as goal

pub returns-in-Ok-opened-clause-found : goal.returns-in-Ok-opened-clause-found
returns-in-Ok-opened-clause-found g c clean =
    let kept = c.in-Ok-opened.ensures in
    let conn = view c.in-Ok.conn.store in
    let store = view c.into_store.result in
    let clean1 = was_clean store (view c.in-Ok-opened.it.0.store) kept.changes.clean clean in
    let clean2 = was_clean conn store c.into_store.ensures.quiet.clean clean1 in
    let same = (c.into_store.ensures.undone.kept clean1).committed (kept.live clean) in
    let first = c.in-Ok.ensures.found clean2 in
    (store.committed, subst (WasIn (image_at g.S.Start)) (sym same) (record { holds = first.holds; reads = first.reads }), kept.stands clean)

pub returns-in-Ok-opened-clause-guarded : goal.returns-in-Ok-opened-clause-guarded
returns-in-Ok-opened-clause-guarded g c clean =
    let kept = c.in-Ok-opened.ensures in
    let store = view c.into_store.result in
    let clean1 = was_clean store (view c.in-Ok-opened.it.0.store) kept.changes.clean clean in
    let clean2 = was_clean (view c.in-Ok.conn.store) store c.into_store.ensures.quiet.clean clean1 in
    kept.changes.shield (c.into_store.ensures.quiet.shield (c.in-Ok.ensures.guarded clean2))

-- One more of the passes that are split off, or joined.
use Rattle.std.proofs.Common.{◌≡◌, ℕ, ◌<◌, List, [], ◌∷◌, ◌++◌, length, map, refl, sym, ap, ◌∙◌, subst}
use Rattle.std.proofs.lemmas.List.{length-map}
use Rattle.std.specs.List.{AllByRecursion}
use Rattle.account_core.specs.declared.Limit.{Limit}
use Rattle.account_cells.specs.Views.{after_split, split_off}
use Rattle.account_shared.specs.Views.{PassesView, AccountsView, Label, Belongs, IsIdle, JoinsTo, limit_of, client_at, label_after_split, label_split_off, label_after_join}
use Rattle.account_shared.proofs.Idle.{idle_split_off}
use Rattle.gateway_workers.specs.Joins.{IsSplitOff, IsAfterSplit, IsJoined, SplitsTo, JoinsAll}

pub splits_none : (before : PassesView) (ps : List PassesView) → ps ≡ [] → SplitsTo before ps before
unfolding SplitsTo
splits_none before ps none = subst (λ (l : List PassesView). SplitsTo before l before) (sym none) (refl, refl, refl)

one_split : (before now next p : PassesView) → now.made ≡ before.made → now.clients ≡ before.clients → now.label ≡ before.label → IsSplitOff now p → IsAfterSplit now next → SplitsTo before (p ∷ []) next
unfolding SplitsTo
one_split before now next p made clients label off after = (
  record { made = off.made; clients = off.clients ∙ ap (map split_off) clients; label = off.label ∙ ap label_split_off label },
  (next, record { made = after.made ∙ made; clients = after.clients ∙ ap (map after_split) clients; label = after.label ∙ ap label_after_split label }, (refl, refl, refl)),
)

pub splits_more : (before now next p : PassesView) (ps : List PassesView) → SplitsTo before ps now → IsSplitOff now p → IsAfterSplit now next → SplitsTo before (ps ++ p ∷ []) next
unfolding SplitsTo
splits_more before now next p [] so off after = one_split before now next p so.0 so.1 so.2 off after
splits_more before now next p (q ∷ ps) so off after = (so.0, (so.1.0, so.1.1, splits_more so.1.0 now next p ps so.1.2 off after))

-- passes that were split off have made no calls, and have no grant open
pub splits_fresh : (before now : PassesView) (ps : List PassesView) → SplitsTo before ps now → AllByRecursion (λ p. IsIdle p × (p.made ≡ 0)) ps
unfolding SplitsTo
splits_fresh before now [] so = tt
splits_fresh before now (p ∷ ps) so = ((idle_split_off before p so.0.clients, so.0.made), splits_fresh so.1.0 now ps so.1.2)

pub splits_name : (before now : PassesView) (ps : List PassesView) → SplitsTo before ps now → now.label.name ≡ before.label.name
unfolding SplitsTo
splits_name before now [] so = ap (λ (l : Label). l.name) so.2
splits_name before now (p ∷ ps) so = splits_name so.1.0 now ps so.1.2 ∙ ap (λ (l : Label). l.name) so.1.1.label

-- ---- joins

pub as_many : (p q : PassesView) (limits : List Limit) → map limit_of p.clients ≡ limits → map limit_of q.clients ≡ limits → length q.clients ≡ length p.clients
as_many p q limits first second =
    sym (length-map q.clients limit_of) ∙ (ap (λ (l : List Limit). length l) (second ∙ sym first) ∙ length-map p.clients limit_of)

pub is_joined : (before other now : PassesView) (accounts : AccountsView) → Belongs before accounts → Belongs now accounts → now.made ≡ before.made → now.label ≡ label_after_join before.label other.label
    → ((k : ℕ) → k < length before.clients → JoinsTo (client_at other k) (client_at before k) (client_at now k)) → IsJoined before other now
is_joined before other now accounts belongs belong made label joined = record {
  made = made;
  label = label;
  count = as_many before now accounts.limits belongs.limits belong.limits;
  joined = joined;
}

joins_before : (before next p now : PassesView) (ps : List PassesView) → IsJoined before p next → JoinsAll next ps now → JoinsAll before (ps ++ p ∷ []) now
unfolding JoinsAll
joins_before before next p now [] one all = (before, refl, subst (λ (q : PassesView). IsJoined before p q) (sym all) one)
joins_before before next p now (x ∷ ps) one all = (all.0, joins_before before next p all.0 ps one all.1, all.2)

-- the last was taken off the list, and joined
pub joins_one : (before next p now : PassesView) (ps all : List PassesView) → all ≡ ps ++ p ∷ [] → IsJoined before p next → JoinsAll next ps now → JoinsAll before all now
joins_one before next p now ps all last one rest = subst (λ (l : List PassesView). JoinsAll before l now) (sym last) (joins_before before next p now ps one rest)

pub joins_none : (now : PassesView) (ps : List PassesView) → ps ≡ [] → JoinsAll now ps now
unfolding JoinsAll
joins_none now ps none = subst (λ (l : List PassesView). JoinsAll now l now) (sym none) refl

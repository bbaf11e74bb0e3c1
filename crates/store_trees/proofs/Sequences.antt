-- Steps one after the other, and stores that are sound.
use Rattle.std.proofs.Common.{◌≡◌, ℕ, pos, false, List, [], ◌∷◌, ◌++◌, refl, ap, sym, ◌∙◌, subst, inl, inr, IsTrue, ◌+◌, ◌<◌, ◌≤◌, length, take, get_or, arith}
use Rattle.std.proofs.lemmas.Bool.{cases_Bool}
use Rattle.std.proofs.lemmas.List.{take_more}
use Rattle.sqlite_trees.specs.View.{View, IsClean, IsQuiet, KeepsSchema, doubt}
use Rattle.sqlite_trees.proofs.Doubt.{no_doubt}
use Rattle.sqlite_trees.specs.Tree.{Trees, put_row, without_rowid}
use Rattle.account_store.specs.declared.step.Step.{Step}
use Rattle.account_store.specs.declared.step.Step.TheVariants.{Accounted, Opened, Closed}
use Rattle.account_store.specs.Steps.{grant_of}
use Rattle.store_trees.specs.Tables.{meta_tree, client_tree, account_tree, grant_tree, account_entry, grant_entry, entered, entered_by, AgreeOnRows}
use Rattle.store_trees.specs.Keeping.{AreTables, Makes, OnlyReads, Stands}

-- two batches in one commit are one after the other
pub entered_by_both : (trees : Trees) (xs ys : List Step) → entered_by trees (xs ++ ys) ≡ entered_by (entered_by trees xs) ys
entered_by_both trees [] ys = refl
entered_by_both trees (x ∷ xs) ys = entered_by_both (entered trees x) xs ys

-- trees that agree still do behind a step
agree_on_step : (a b : Trees) (s : Step) → AgreeOnRows a b → AgreeOnRows (entered a s) (entered b s)
agree_on_step a b (Accounted number row) p = record { accounts = ap (put_row (account_entry number row)) p.accounts; grants = p.grants }
agree_on_step a b (Opened g) p = record { accounts = p.accounts; grants = ap (put_row (grant_entry (grant_of g))) p.grants }
agree_on_step a b (Closed number of) p = record { accounts = p.accounts; grants = ap (without_rowid (pos of)) p.grants }

pub agree_on : (a b : Trees) (ss : List Step) → AgreeOnRows a b → AgreeOnRows (entered_by a ss) (entered_by b ss)
agree_on a b [] p = p
agree_on a b (s ∷ ss) p = agree_on (entered a s) (entered b s) ss (agree_on_step a b s p)

pub kept_on : (base old new : Trees) (before batch : List Step) → AgreeOnRows old (entered_by base before) → new ≡ entered_by old batch → AgreeOnRows new (entered_by base (before ++ batch))
kept_on base old new before batch p q =
    subst (λ trees. AgreeOnRows trees (entered_by base (before ++ batch))) (sym q)
    (subst (AgreeOnRows (entered_by old batch)) (sym (entered_by_both base before batch)) (agree_on old (entered_by base before) batch p))

-- a transaction that isn't broken is on a clean disk
pub clean_if_sound : (v : View) → (v.is_clean ≡ false → v.is_open ≡ false) → (v.is_open ≡ false → IsTrue v.is_broken) → v.is_broken ≡ false → IsClean v
clean_if_sound v shut broken sound = elim (cases_Bool v.is_clean) [
  | inl up ↦ no_doubt v.is_clean up
  | inr down ↦ absurd (let b = broken (shut down) in cc)
]

pub makes_on : (a b c : View) (all : List Step) (i : ℕ) (d : Step) → i < length all → Makes a b (take i all) → Makes b c (get_or all i d ∷ []) → Makes a c (take (i + 1) all)
makes_on a b c all i d low p q = record {
  sound = q.sound ∙ p.sound;
  trees = q.trees ∙ ap (λ t. entered t (get_or all i d)) p.trees ∙ sym (entered_by_both a.trees (take i all) (get_or all i d ∷ [])) ∙ ap (entered_by a.trees) (sym (take_more all i d low));
  committed = q.committed ∙ p.committed;
}

pub was_clean : (a b : View) → doubt a.is_clean ≤ doubt b.is_clean → IsClean b → IsClean a
was_clean a b falls clean = omega (arith, falls, clean)

pub stands_on : (a b c : View) → doubt b.is_clean ≤ doubt c.is_clean → Stands a b → Stands b c → Stands a c
stands_on a b c falls p q clean live =
    let now = q clean live in
    let before = p (was_clean b c falls clean) now.0 in
    (before.0, now.1 ∙ before.1)

pub quiet_on : {S : Type 0} (view : S → View) (faults : S → ℕ) (recovers : S → Trees → Type 0) (shielded : S → Type 0) (a b c : S)
    → IsQuiet view faults recovers shielded a b → IsQuiet view faults recovers shielded b c → IsQuiet view faults recovers shielded a c
quiet_on view faults recovers shielded a b c p q = record {
  shield = λ s. q.shield (p.shield s);
  clean = omega (arith, p.clean, q.clean);
  counts = omega (arith, p.counts, q.counts);
  closes = λ clean live. elim (p.closes (was_clean (view b) (view c) q.clean clean) live) [
    | inl still ↦ elim (q.closes clean still) [ inl on ↦ inl on | inr more ↦ inr (omega (arith, more, p.counts)) ]
    | inr more ↦ inr (omega (arith, more, q.counts))
  ];
  outcomes = λ db left. p.outcomes db (q.outcomes db left);
}

pub schema_on : (a b c : View) → KeepsSchema a b → KeepsSchema b c → KeepsSchema a c
schema_on a b c p q = record {
  shape = q.shape ∙ p.shape;
  reals = q.reals ∙ p.reals;
  committed_shape = q.committed_shape ∙ p.committed_shape;
  committed_reals = q.committed_reals ∙ p.committed_reals;
  numbered = q.numbered ∙ p.numbered;
}

-- what memory holds keeps the tables
pub tables_kept : (a b : View) → AreTables a → KeepsSchema a b → doubt a.is_clean ≤ doubt b.is_clean → AreTables b
tables_kept a b t k falls = record {
  meta = λ clean. ap (λ s. s meta_tree) k.shape ∙ t.meta (was_clean a b falls clean);
  clients = λ clean. ap (λ s. s client_tree) k.shape ∙ t.clients (was_clean a b falls clean);
  accounts = λ clean. ap (λ s. s account_tree) k.shape ∙ t.accounts (was_clean a b falls clean);
  grants = λ clean. ap (λ s. s grant_tree) k.shape ∙ t.grants (was_clean a b falls clean);
  same = λ clean. k.shape ∙ (t.same (was_clean a b falls clean) ∙ sym k.committed_shape);
  numbered = λ clean. subst IsTrue (sym k.numbered) (t.numbered (was_clean a b falls clean));
}

-- two that agree with the same trees agree
pub agree_both : (trees a b : Trees) → AgreeOnRows trees a → AgreeOnRows trees b → AgreeOnRows a b
agree_both trees a b one two = record { accounts = sym one.accounts ∙ two.accounts; grants = sym one.grants ∙ two.grants }

-- trees that agree with some that agree with others
pub agree_through : (a b c : Trees) → AgreeOnRows a b → AgreeOnRows b c → AgreeOnRows a c
agree_through a b c one two = record { accounts = one.accounts ∙ two.accounts; grants = one.grants ∙ two.grants }

-- trees and soundness behind three reads
pub read_thrice : (a b c d : View) → OnlyReads a b → OnlyReads b c → OnlyReads c d → (d.trees ≡ a.trees) × (d.is_broken ≡ a.is_broken)
read_thrice a b c d one two three = (
  ap (λ (v : View). v.trees) three ∙ (ap (λ (v : View). v.trees) two ∙ ap (λ (v : View). v.trees) one),
  ap (λ (v : View). v.is_broken) three ∙ (ap (λ (v : View). v.is_broken) two ∙ ap (λ (v : View). v.is_broken) one),
)

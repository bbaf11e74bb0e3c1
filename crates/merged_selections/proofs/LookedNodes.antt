-- What was found of the nodes of groups that are known.
use Rattle.std.proofs.Common.{◌≡◌, ◌⊎◌, inl, inr, ⊎_elim, ◌<◌, ℕ, zero, suc, List, [], ◌∷◌, ◌++◌, map, length, get_or, Option, Some, None, Result, Ok, Err, Vec, Global, refl, sym, ap, ◌∙◌, subst}
use Rattle.std.specs.Prelude.{IfSome, IfOk}
use Rattle.std.specs.List.{slice_get}
use Rattle.std.proofs.lemmas.Option.{same_Some, slice_get_read}
use Rattle.plan_model.specs.SelectedFields.{Setting, HandedSize}
use Rattle.collected_fields.specs.declared.collected.Group.{Group}
use Rattle.collected_fields.specs.Views.{collected_field}
use Rattle.merged_selections.specs.declared.node.Looked.{Looked}
use Rattle.merged_selections.specs.declared.known.KnownGroups.{KnownGroups}
use Rattle.merged_selections.specs.NodeParts.{handed_data}
use Rattle.merged_selections.specs.NodeTests.{IsLookedAt}
use Rattle.merged_selections.specs.Again.{HasSome, HaveSome, AreLooked, TakesLooked}
use Rattle.merged_selections.proofs.SomeFields.{looked_by_some}

no_place : {A : Type 0} (at : ℕ) (x : A) → slice_get [] at ≡ Some x → ⊥
no_place at x is = cc

module _ (e : Setting) (T : ℕ) (handed : HandedSize) where
  -- of no group, nothing is said
  pub none_looked : (groups : List Group) → AreLooked e T handed groups []
  none_looked groups at g one is there = absurd (no_place at one there)

  -- of a group at its place
  pub looked_here : (groups : List Group) (looked : List Looked) (at : ℕ) (g : Group) → at < length groups → g ≡ get_or groups at g → AreLooked e T handed groups looked → IfSome (slice_get looked at) (IsLookedAt e T handed (map collected_field g.fields.items))
  looked_here groups looked at g within is all = there (slice_get looked at) refl
    where
      there : (found : Option Looked) → slice_get looked at ≡ found → IfSome found (IsLookedAt e T handed (map collected_field g.fields.items))
      there None found = tt
      there (Some one) found = all at g one (slice_get_read groups (length groups) at g refl within is) found

  -- one more
  pushed : {A : Type 0} (xs : List A) (y : A) (at : ℕ) (x : A) → slice_get (xs ++ (y ∷ [])) at ≡ Some x → (slice_get xs at ≡ Some x) ⊎ ((at ≡ length xs) × (y ≡ x))
  pushed [] y zero x is = inr (refl, same_Some y x is)
  pushed [] y (suc at) x is = absurd (no_place at x is)
  pushed (z ∷ xs) y zero x is = inl is
  pushed (z ∷ xs) y (suc at) x is = ⊎_elim
      (λ (there : slice_get xs at ≡ Some x). inl there)
      (λ (last : (at ≡ length xs) × (y ≡ x)). inr (ap suc last.0, last.1))
      (pushed xs y at x is)

  pub looked_more : (groups : List Group) (looked now : List Looked) (i : ℕ) (g : Group) (one : Looked) → now ≡ looked ++ (one ∷ []) → i ≡ length looked → i < length groups → g ≡ get_or groups i g → AreLooked e T handed groups looked → IsLookedAt e T handed (map collected_field g.fields.items) one
      → AreLooked e T handed groups now
  looked_more groups looked now i g one grown last within is all here = subst (AreLooked e T handed groups) (sym grown) (λ at h x there found. ⊎_elim
      (λ (old : slice_get looked at ≡ Some x). all at h x there old)
      (λ (new : (at ≡ length looked) × (one ≡ x)).
      let same : g ≡ h = same_Some g h (sym (slice_get_read groups (length groups) i g refl within is) ∙ (ap (slice_get groups) (last ∙ sym new.0) ∙ there)) in
      subst (λ (y : Looked). IsLookedAt e T handed (map collected_field h.fields.items) y) new.1 (subst (λ (k : Group). IsLookedAt e T handed (map collected_field k.fields.items) one) same here))
      (pushed looked one at x found))

  -- of some of the fields of groups
  some_there : (groups others : List Group) → HaveSome e.schema groups others → (at : ℕ) (h : Group) → slice_get others at ≡ Some h → (g : Group) × (slice_get groups at ≡ Some g) × HasSome e.schema g h
  some_there [] [] some at h there = absurd (no_place at h there)
  some_there [] (x ∷ others) some at h there = absurd some
  some_there (g ∷ groups) [] some at h there = absurd some
  some_there (g ∷ groups) (x ∷ others) some zero h there = (g, refl, subst (HasSome e.schema g) (same_Some x h there) some.0)
  some_there (g ∷ groups) (x ∷ others) some (suc at) h there = some_there groups others some.1 at h there

  pub looked_shorter : (groups others : List Group) (looked : List Looked) → HaveSome e.schema groups others → AreLooked e T handed groups looked → AreLooked e T handed others looked
  looked_shorter groups others looked some all at h one there found =
      let own = some_there groups others some at h there in
      looked_by_some e T handed (map collected_field own.0.fields.items) (map collected_field h.fields.items) one own.2.fields (all at own.0 one own.1 found)

-- what is taken where the same size is handed down
pub taken : (e : Setting) (k : KnownGroups) (handed : HandedSize) (groups : List Group) (looked : List Looked) → TakesLooked k handed looked → AreLooked e k.of.number (handed_data k.handed) groups k.looked.items → AreLooked e k.of.number handed groups looked
taken e k handed groups [] takes all = none_looked e k.of.number handed groups
taken e k handed groups (one ∷ others) takes all =
    subst (λ (h : HandedSize). AreLooked e k.of.number h groups (one ∷ others)) takes.0 (subst (AreLooked e k.of.number (handed_data k.handed) groups) takes.1 all)

takes_all : (k : KnownGroups) (handed : HandedSize) (looked : List Looked) → handed_data k.handed ≡ handed → k.looked.items ≡ looked → TakesLooked k handed looked
takes_all k handed [] same is = tt
takes_all k handed (one ∷ others) same is = (same, is)

pub all_taken : {E : Type 0} (k : KnownGroups) (handed : HandedSize) (lent : List Looked) (result : Result (Vec Looked Global) E) → handed_data k.handed ≡ handed → lent ≡ k.looked.items → IfOk result (λ copy. copy.items ≡ lent) → IfOk result (λ copy. TakesLooked k handed copy.items)
all_taken k handed lent (Ok copy) same is copied = takes_all k handed copy.items same (sym (copied ∙ is))
all_taken k handed lent (Err fault) same is copied = tt

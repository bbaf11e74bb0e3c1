-- Selections that are put behind those that are kept, one after the other.
use Rattle.std.proofs.Common.{◌≡◌, ◌⊎◌, inl, inr, ℕ, zero, suc, arith, ◌+◌, ◌<◌, ◌≤◌, List, [], ◌∷◌, ◌++◌, map, take, length, get_or, true, false, Option, Some, None, sym, ap, ◌∙◌, subst}
use Rattle.std.proofs.lemmas.List.{map_push, take_more, take_all}
use Rattle.gql_base.specs.ways.Reading.{Identifier}
use Rattle.document_reader.specs.declared.trees.Selection.{Selection}
use Rattle.document_reader.specs.Documents.{SelectionTree, field_selection, fragment_spread, inline_fragment, SelectionTrees, no_selection, selection_then}
use Rattle.document_reader.specs.DocumentReading.{selections_from}
use Rattle.document_reader.specs.Trees.{selection_tree, set_tree}
use Rattle.input_values.specs.coercion.Literals.{Environment}
use Rattle.document_rules.specs.Parts.{FragmentData}
use Rattle.plan_model.specs.Collecting.{is_included}
use Rattle.plan_model.specs.Shortening.{IsSameType, HasSelection, Shortens, GoesBeside, Keeps, AreShortened, IsShortenedFragment, AreShortenedFragments}
use Rattle.distinct_selections.specs.Alike.{IsAlike, AreAlike}
use Rattle.distinct_selections.specs.Adding.{IsRepeated, KeepsOne, AddsOne}

-- ---- what is written alike serves for the same

same_type_through : (a b c : Option Identifier) → IsSameType a b → IsSameType b c → IsSameType a c
same_type_through None None None h k = tt
same_type_through None None (Some c) h k = absurd k
same_type_through None (Some b) c h k = absurd h
same_type_through (Some a) None c h k = absurd h
same_type_through (Some a) (Some b) None h k = absurd k
same_type_through (Some a) (Some b) (Some c) h k = h ∙ k

module _ (values : Environment) where
  abbrev Serves : SelectionTree → SelectionTree → SelectionTree → Type 0
  Serves s t u = Shortens values s t → IsAlike t u → Shortens values s u

  served_still : (s : SelectionTree) (kept others : SelectionTrees) → ((t u : SelectionTree) → Serves s t u) → AreAlike kept others → HasSelection (λ t. Shortens values s t) kept → HasSelection (λ t. Shortens values s t) others
  served_still s no_selection others serves alike h = absurd h
  served_still s (selection_then t ts) no_selection serves alike h = absurd alike
  served_still s (selection_then t ts) (selection_then u us) serves alike (inl is) = inl (serves t u is alike.0)
  served_still s (selection_then t ts) (selection_then u us) serves alike (inr later) = inr (served_still s ts us serves alike.1 later)

  gone_still : (s : SelectionTree) (kept others : SelectionTrees) → ((t u : SelectionTree) → Serves s t u) → AreAlike kept others → GoesBeside values kept s (λ t. Shortens values s t) → GoesBeside values others s (λ t. Shortens values s t)
  gone_still s kept others serves alike (inl out) = inl out
  gone_still s kept others serves alike (inr h) = inr (served_still s kept others serves alike h)

  mutual
    pub alike_serves : (s t u : SelectionTree) → Shortens values s t → IsAlike t u → Shortens values s u
    alike_serves (field_selection n a d b) (field_selection n' a' d' b') (field_selection m c e i) h k =
        (((h.0.0.0 ∙ k.0.0.0, h.0.0.1 ∙ k.0.0.1), h.0.1 ∙ k.0.1 values), (k.1.0, alike_kept no_selection no_selection b b' i tt k.1.1 h.1.1))
    alike_serves (field_selection n a d b) (field_selection n' a' d' b') (fragment_spread m e) h k = absurd k
    alike_serves (field_selection n a d b) (field_selection n' a' d' b') (inline_fragment m e i) h k = absurd k
    alike_serves (field_selection n a d b) (fragment_spread n' d') u h k = absurd h
    alike_serves (field_selection n a d b) (inline_fragment n' d' b') u h k = absurd h
    alike_serves (fragment_spread n d) (field_selection n' a' d' b') u h k = absurd h
    alike_serves (fragment_spread n d) (fragment_spread n' d') (field_selection m c e i) h k = absurd k
    alike_serves (fragment_spread n d) (fragment_spread n' d') (fragment_spread m e) h k = (h.0 ∙ k.0, k.1)
    alike_serves (fragment_spread n d) (fragment_spread n' d') (inline_fragment m e i) h k = absurd k
    alike_serves (fragment_spread n d) (inline_fragment n' d' b') u h k = absurd h
    alike_serves (inline_fragment n d b) (field_selection n' a' d' b') u h k = absurd h
    alike_serves (inline_fragment n d b) (fragment_spread n' d') u h k = absurd h
    alike_serves (inline_fragment n d b) (inline_fragment n' d' b') (field_selection m c e i) h k = absurd k
    alike_serves (inline_fragment n d b) (inline_fragment n' d' b') (fragment_spread m e) h k = absurd k
    alike_serves (inline_fragment n d b) (inline_fragment n' d' b') (inline_fragment m e i) h k =
        (same_type_through n n' m h.0 k.0, (k.1.0, alike_kept no_selection no_selection b b' i tt k.1.1 h.1.1))

    -- what is kept, and what is written as it is
    alike_kept : (kept others ss ts us : SelectionTrees) → AreAlike kept others → AreAlike ts us → Keeps values kept ss ts → Keeps values others ss us
    alike_kept kept others no_selection no_selection no_selection a b h = tt
    alike_kept kept others no_selection no_selection (selection_then u us) a b h = absurd b
    alike_kept kept others no_selection (selection_then t ts) us a b h = absurd h
    alike_kept kept others (selection_then s ss) no_selection no_selection a b h = (gone_still s kept others (λ t u x y. alike_serves s t u x y) a h.0, alike_kept kept others ss no_selection no_selection a tt h.1)
    alike_kept kept others (selection_then s ss) no_selection (selection_then u us) a b h = absurd b
    alike_kept kept others (selection_then s ss) (selection_then t ts) no_selection a b h = absurd b
    alike_kept kept others (selection_then s ss) (selection_then t ts) (selection_then u us) a b (inl stays) =
        inl ((stays.0.0, alike_serves s t u stays.0.1 b.0), alike_kept (selection_then t kept) (selection_then u others) ss ts us (b.0, a) b.1 stays.1)
    alike_kept kept others (selection_then s ss) (selection_then t ts) (selection_then u us) a b (inr goes) =
        inr (gone_still s kept others (λ x y p q. alike_serves s x y p q) a goes.0, alike_kept kept others ss (selection_then t ts) (selection_then u us) a b goes.1)

  -- ---- one selection more

  abbrev set : List SelectionTree → SelectionTrees
  set ts = selections_from ts

  kept_behind : (kept : SelectionTrees) (xs ys : List SelectionTree) (s t : SelectionTree) → is_included values s ≡ true → Shortens values s t → Keeps values kept (set xs) (set ys) → Keeps values kept (set (xs ++ (s ∷ []))) (set (ys ++ (t ∷ [])))
  kept_behind kept [] [] s t stays short h = inl ((stays, short), tt)
  kept_behind kept [] (y ∷ ys) s t stays short h = absurd h
  kept_behind kept (x ∷ xs) [] s t stays short h = inr (h.0, kept_behind kept xs [] s t stays short h.1)
  kept_behind kept (x ∷ xs) (y ∷ ys) s t stays short (inl first) = inl (first.0, kept_behind (selection_then y kept) xs ys s t stays short first.1)
  kept_behind kept (x ∷ xs) (y ∷ ys) s t stays short (inr goes) = inr (goes.0, kept_behind kept xs (y ∷ ys) s t stays short goes.1)

  abbrev GoesBehind : SelectionTrees → List SelectionTree → SelectionTree → Type 0
  GoesBehind kept ys s = GoesBeside values kept s (λ t. Shortens values s t) ⊎ HasSelection (λ t. Shortens values s t) (set ys)

  past_first : (kept : SelectionTrees) (y : SelectionTree) (ys : List SelectionTree) (s : SelectionTree) → GoesBehind kept (y ∷ ys) s → GoesBehind (selection_then y kept) ys s
  past_first kept y ys s (inl (inl out)) = inl (inl out)
  past_first kept y ys s (inl (inr before)) = inl (inr (inr before))
  past_first kept y ys s (inr (inl is)) = inl (inr (inl is))
  past_first kept y ys s (inr (inr later)) = inr later

  gone_alone : (kept : SelectionTrees) (s : SelectionTree) → GoesBehind kept [] s → GoesBeside values kept s (λ t. Shortens values s t)
  gone_alone kept s (inl goes) = goes
  gone_alone kept s (inr h) = absurd h

  gone_behind : (kept : SelectionTrees) (xs ys : List SelectionTree) (s : SelectionTree) → GoesBehind kept ys s → Keeps values kept (set xs) (set ys) → Keeps values kept (set (xs ++ (s ∷ []))) (set ys)
  gone_behind kept [] [] s goes h = (gone_alone kept s goes, tt)
  gone_behind kept [] (y ∷ ys) s goes h = absurd h
  gone_behind kept (x ∷ xs) [] s goes h = (h.0, gone_behind kept xs [] s goes h.1)
  gone_behind kept (x ∷ xs) (y ∷ ys) s goes (inl first) = inl (first.0, gone_behind (selection_then y kept) xs ys s (past_first kept y ys s goes) first.1)
  gone_behind kept (x ∷ xs) (y ∷ ys) s goes (inr gone) = inr (gone.0, gone_behind kept xs (y ∷ ys) s goes gone.1)

  serves_for : (s t : SelectionTree) (kept : SelectionTrees) → Shortens values s t → HasSelection (λ u. IsAlike t u) kept → HasSelection (λ u. Shortens values s u) kept
  serves_for s t no_selection short h = absurd h
  serves_for s t (selection_then u us) short (inl is) = inl (alike_serves s t u short is)
  serves_for s t (selection_then u us) short (inr later) = inr (serves_for s t us short later)

  pub one_added : (s t : SelectionTree) (old new : List SelectionTree) → Shortens values s t → KeepsOne t old new → is_included values s ≡ true → AddsOne values s old new
  one_added s t old new short (inl there) stays = λ ss h. subst (λ (ts : List SelectionTree). AreShortened values (set (ss ++ (s ∷ []))) (set ts)) (sym there.1) (gone_behind no_selection ss old s (inr (serves_for s t (set old) short there.0)) h)
  one_added s t old new short (inr behind) stays = λ ss h. subst (λ (ts : List SelectionTree). AreShortened values (set (ss ++ (s ∷ []))) (set ts)) (sym behind) (kept_behind no_selection ss old s t stays short h)

  pub none_added : (s : SelectionTree) (kept : List SelectionTree) → is_included values s ≡ false → AddsOne values s kept kept
  none_added s kept out = λ ss h. gone_behind no_selection ss kept s (inl (inl out)) h

  -- ---- a selection set, selection after selection

  pub set_begun : (ss kept : List Selection) → kept ≡ [] → AreShortened values (set_tree (take 0 ss)) (set_tree kept)
  set_begun ss kept none = subst (λ (ts : List Selection). AreShortened values (set_tree (take 0 ss)) (set_tree ts)) (sym none) tt

  pub set_more : (ss : List Selection) (at : ℕ) (s : Selection) (old new : List Selection) → at < length ss → s ≡ get_or ss at s → AreShortened values (set_tree (take at ss)) (set_tree old) → AddsOne values (selection_tree s) (map selection_tree old) (map selection_tree new)
      → AreShortened values (set_tree (take (at + 1) ss)) (set_tree new)
  set_more ss at s old new here is before adds =
      subst (λ (ts : List SelectionTree). AreShortened values (set ts) (set_tree new)) (sym (ap (map selection_tree) (take_more ss at s here ∙ ap (λ (x : Selection). take at ss ++ (x ∷ [])) (sym is)) ∙ map_push selection_tree (take at ss) s))
      (adds (map selection_tree (take at ss)) before)

  pub set_whole : (ss : List Selection) (at : ℕ) (kept given : List Selection) → length ss ≤ at → given ≡ kept → AreShortened values (set_tree (take at ss)) (set_tree kept) → AreShortened values (set_tree ss) (set_tree given)
  set_whole ss at kept given past same h = subst (λ (ts : List Selection). AreShortened values (set_tree ts) (set_tree given)) (take_all at ss past) (subst (λ (ts : List Selection). AreShortened values (set_tree (take at ss)) (set_tree ts)) (sym same) h)

  -- ---- fragments, one after the other

  fragments_behind : (fs gs : List FragmentData) (f g : FragmentData) → AreShortenedFragments values fs gs → IsShortenedFragment values f g → AreShortenedFragments values (fs ++ (f ∷ [])) (gs ++ (g ∷ []))
  fragments_behind [] [] f g h k = (k, tt)
  fragments_behind [] (y ∷ gs) f g h k = absurd h
  fragments_behind (x ∷ fs) [] f g h k = absurd h
  fragments_behind (x ∷ fs) (y ∷ gs) f g h k = (h.0, fragments_behind fs gs f g h.1 k)

  pub fragments_more : {A B : Type 0} (view : A → FragmentData) (other : B → FragmentData) (xs : List A) (at : ℕ) (x : A) (ys zs : List B) (y : B) → at < length xs → x ≡ get_or xs at x → zs ≡ ys ++ (y ∷ []) → AreShortenedFragments values (map view (take at xs)) (map other ys) → IsShortenedFragment values (view x) (other y)
      → AreShortenedFragments values (map view (take (at + 1) xs)) (map other zs)
  fragments_more view other xs at x ys zs y here is pushed before short =
      subst (λ (fs : List FragmentData). AreShortenedFragments values fs (map other zs)) (sym (ap (map view) (take_more xs at x here ∙ ap (λ z. take at xs ++ (z ∷ [])) (sym is)) ∙ map_push view (take at xs) x))
      (subst (λ (gs : List FragmentData). AreShortenedFragments values (map view (take at xs) ++ (view x ∷ [])) gs) (sym (ap (map other) pushed ∙ map_push other ys y))
      (fragments_behind (map view (take at xs)) (map other ys) (view x) (other y) before short))

  pub fragments_whole : {A B : Type 0} (view : A → FragmentData) (other : B → FragmentData) (xs : List A) (at : ℕ) (ys : List B) → length xs ≤ at → AreShortenedFragments values (map view (take at xs)) (map other ys) → AreShortenedFragments values (map view xs) (map other ys)
  fragments_whole view other xs at ys past h = subst (λ zs. AreShortenedFragments values (map view zs) (map other ys)) (take_all at xs past) h

-- ---- selections that are written alike, one after the other

alike_behind : (xs ys : List SelectionTree) (x y : SelectionTree) → AreAlike (selections_from xs) (selections_from ys) → IsAlike x y → AreAlike (selections_from (xs ++ (x ∷ []))) (selections_from (ys ++ (y ∷ [])))
alike_behind [] [] x y h k = (k, tt)
alike_behind [] (b ∷ ys) x y h k = absurd h
alike_behind (a ∷ xs) [] x y h k = absurd h
alike_behind (a ∷ xs) (b ∷ ys) x y h k = (h.0, alike_behind xs ys x y h.1 k)

one_taken : (ss : List Selection) (at : ℕ) (s : Selection) → at < length ss → s ≡ get_or ss at s → map selection_tree (take (at + 1) ss) ≡ map selection_tree (take at ss) ++ (selection_tree s ∷ [])
one_taken ss at s here is = ap (map selection_tree) (take_more ss at s here ∙ ap (λ (x : Selection). take at ss ++ (x ∷ [])) (sym is)) ∙ map_push selection_tree (take at ss) s

pub alike_more : (ss ts : List Selection) (at : ℕ) (s t : Selection) → at < length ss → at < length ts → s ≡ get_or ss at s → t ≡ get_or ts at t → AreAlike (set_tree (take at ss)) (set_tree (take at ts)) → IsAlike (selection_tree s) (selection_tree t)
    → AreAlike (set_tree (take (at + 1) ss)) (set_tree (take (at + 1) ts))
alike_more ss ts at s t here there is same h k =
    subst (λ (xs : List SelectionTree). AreAlike (selections_from xs) (set_tree (take (at + 1) ts))) (sym (one_taken ss at s here is))
    (subst (λ (ys : List SelectionTree). AreAlike (selections_from (map selection_tree (take at ss) ++ (selection_tree s ∷ []))) (selections_from ys)) (sym (one_taken ts at t there same))
    (alike_behind (map selection_tree (take at ss)) (map selection_tree (take at ts)) (selection_tree s) (selection_tree t) h k))

pub alike_whole : (ss ts : List Selection) (at : ℕ) → length ss ≤ at → length ts ≤ at → AreAlike (set_tree (take at ss)) (set_tree (take at ts)) → AreAlike (set_tree ss) (set_tree ts)
alike_whole ss ts at past end h = subst (λ (xs : List Selection). AreAlike (set_tree xs) (set_tree ts)) (take_all at ss past) (subst (λ (ys : List Selection). AreAlike (set_tree (take at ss)) (set_tree ys)) (take_all at ts end) h)

-- one that stands at a place
pub repeated_at : (ss : List Selection) (at : ℕ) (t : SelectionTree) (u : Selection) → at < length ss → u ≡ get_or ss at u → IsAlike t (selection_tree u) → IsRepeated t (map selection_tree ss)
repeated_at [] at t u here is alike = absurd (nothing_there at here)
  where
    nothing_there : (at : ℕ) → at < 0 → ⊥
    nothing_there at h = omega (arith, h)
repeated_at (s ∷ ss) zero t u here is alike = inl (subst (λ (x : Selection). IsAlike t (selection_tree x)) is alike)
repeated_at (s ∷ ss) (suc at) t u here is alike = inr (repeated_at ss at t u (omega (arith, here)) is alike)

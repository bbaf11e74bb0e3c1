-- A walk along a list of lanes that changes one after the other, and lists that grow beside it.
use Rattle.std.proofs.Common.{◌≡◌, ℕ, ◌+◌, ◌≤◌, ◌<◌, List, [], ◌∷◌, ◌++◌, true, false, nat_eq, refl, sym, ap, ◌∙◌, subst, ⊎_elim, arith, map, set, take, length, get_or, suc}
use Rattle.std.proofs.lemmas.Bool.{cases_Bool, eqb-true, eqb-false}
use Rattle.std.proofs.lemmas.List.{length-map, length-set, get_or-set_same, get_or-set_other, get_or_default, same_lists, get_or-map, take_all, nil_from_length}
use lib.Seq.{take-suc}
use mathlib.Core.List.{map-append}

-- The places below the i-th were changed as R says, the others are as they were.
pub record WalkedTo {L : Type 0} (R : ℕ → L → L → Type 0) (i : ℕ) (old new : List L) : Type 0 where
  pub long : length new ≡ length old
  pub below : (k : ℕ) (d : L) → k < i → k < length old → R k (get_or old k d) (get_or new k d)
  pub above : (k : ℕ) (d : L) → i ≤ k → get_or new k d ≡ get_or old k d

pub walk_begins : {L : Type 0} (R : ℕ → L → L → Type 0) (old : List L) → WalkedTo R 0 old old
walk_begins R old = record { long = refl; below = λ k d low. absurd (omega (arith, low)); above = λ k d _. refl }

-- the next place is still as it was
pub next_is_old : {L : Type 0} (R : ℕ → L → L → Type 0) (i : ℕ) (old new : List L) (x : L) → WalkedTo R i old new → x ≡ get_or new i x → x ≡ get_or old i x
next_is_old R i old new x walked is = is ∙ walked.above i x (omega arith)

pub walk_steps : {L : Type 0} (R : ℕ → L → L → Type 0) (i : ℕ) (old new : List L) (x y : L) → WalkedTo R i old new → i < length old → x ≡ get_or new i x → R i x y → WalkedTo R (i + 1) old (set new i y)
walk_steps R i old new x y walked low is changed = record {
  long = length-set new i y ∙ walked.long;
  below = λ k d lt small. ⊎_elim
      (λ (e : nat_eq k i ≡ true).
      let here : i < length new = subst (λ (n : ℕ). i < n) (sym walked.long) low in
      let there : x ≡ get_or old i d = next_is_old R i old new x walked is ∙ get_or_default old i x d low in
      subst (λ j. R j (get_or old j d) (get_or (set new i y) j d)) (sym (eqb-true k i e))
      (subst (λ b. R i (get_or old i d) b) (sym (get_or-set_same new i y d here)) (subst (λ a. R i a y) there changed)))
      (λ (e : nat_eq k i ≡ false).
      let away = eqb-false k i e in
      subst (λ b. R k (get_or old k d) b) (sym (get_or-set_other new i k y d away)) (walked.below k d (omega arith) small))
      (cases_Bool (nat_eq k i));
  above = λ k d le. get_or-set_other new i k y d (λ same. absurd (omega arith)) ∙ walked.above k d (omega arith);
}

-- at the end, what all places show now by what they showed
pub walk_shows : {L C : Type 0} (R : ℕ → L → L → Type 0) (f g : L → C) (n : ℕ) (old new : List L) → ((k : ℕ) (a b : L) → R k a b → f b ≡ g a) → WalkedTo R n old new → length old ≤ n → map f new ≡ map g old
walk_shows R f g n [] new tells walked le = ap (map f) (nil_from_length new walked.long)
walk_shows R f g n (x ∷ xs) new tells walked le =
    let old = x ∷ xs in
    same_lists (map f new) (map g old) (length-map new f ∙ (walked.long ∙ sym (length-map old g)))
    (λ k d low.
    let small : k < length new = subst (λ (m : ℕ). k < m) (length-map new f) low in
    let in_old : k < length old = subst (λ (m : ℕ). k < m) walked.long small in
    get_or-map f new k x d small ∙ (tells k (get_or old k x) (get_or new k x) (walked.below k x (omega arith) in_old) ∙ sym (get_or-map g old k x d in_old)))

-- the same of one place
pub walk_shows_at : {L C : Type 0} (R : ℕ → L → L → Type 0) (f : L → C) (P : ℕ → C → C → Type 0) (n : ℕ) (old new : List L) → ((k : ℕ) (a b : L) → R k a b → P k (f a) (f b)) → WalkedTo R n old new → length old ≤ n
    → (k : ℕ) (e : C) → k < length old → P k (get_or (map f old) k e) (get_or (map f new) k e)
walk_shows_at R f P n [] new tells walked le k e low = absurd (omega (arith, low))
walk_shows_at R f P n (x ∷ xs) new tells walked le k e low =
    let old = x ∷ xs in
    let small : k < length new = subst (λ (m : ℕ). k < m) (sym walked.long) low in
    subst (λ a. P k a (get_or (map f new) k e)) (sym (get_or-map f old k x e low))
    (subst (λ b. P k (f (get_or old k x)) b) (sym (get_or-map f new k x e small)) (tells k (get_or old k x) (get_or new k x) (walked.below k x (omega arith) low)))

-- a list that grows by what the places show
pub grows_beside : {L X C : Type 0} (f : X → C) (g : L → C) (i : ℕ) (xs : List X) (x : X) (ls : List L) (l : L) → map f xs ≡ take i (map g ls) → i < length ls → l ≡ get_or ls i l → f x ≡ g l → map f (xs ++ x ∷ []) ≡ take (i + 1) (map g ls)
grows_beside f g i xs x ls l so_far low is shows =
    map-append f xs (x ∷ [])
    ∙ ((λ j. so_far j ++ (shows ∙ (ap g is ∙ sym (get_or-map g ls i l (g l) low))) j ∷ [])
    ∙ (sym (take-suc (map g ls) i (g l) (subst (λ (n : ℕ). i < n) (sym (length-map ls g)) low)) ∙ ap (λ n. take n (map g ls)) {x = suc i} {y = i + 1} (omega arith)))

pub grown_beside : {L X C : Type 0} (f : X → C) (g : L → C) (n : ℕ) (xs : List X) (ls : List L) → map f xs ≡ take n (map g ls) → length ls ≤ n → map f xs ≡ map g ls
grown_beside f g n xs ls so_far le = so_far ∙ take_all n (map g ls) (subst (λ (m : ℕ). m ≤ n) (sym (length-map ls g)) le)

pub map_twice : {A B C : Type 0} (f : A → B) (g : B → C) (xs : List A) → map g (map f xs) ≡ map (λ x. g (f x)) xs
map_twice f g [] = refl
map_twice f g (x ∷ xs) = ap (λ l. g (f x) ∷ l) (map_twice f g xs)

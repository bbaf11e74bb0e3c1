-- What is carried into a window, in a history that grows: the window's first grant fixes it.
use Rattle.std.proofs.Common.{◌≡◌, ℕ, zero, suc, Bool, true, false, true≢false, ◌||◌, cond, List, [], ◌∷◌, ◌++◌, refl, sym, ap, ◌∙◌}
use Rattle.std.proofs.Math.Bool.{or-false}
use Rattle.std.proofs.lemmas.List.Folds.{list_any-append}
use Rattle.cost_num.specs.declared.Cost.{Cost}
use Rattle.account_core.specs.declared.Limit.{Limit}
use Rattle.account_core.specs.Costs.{nothing, together}
use Rattle.account_core.specs.Machine.{Entry}
use Rattle.account_core.specs.Sums.{opens_window, is_opened, before_opened, spent_in, open_in, handed_on, carried_in}

pub is_opened-push : (window : ℕ) (h : List Entry) (e : Entry) → is_opened window (h ++ e ∷ []) ≡ (is_opened window h || opens_window window e.call e.reply)
is_opened-push window h e =
    list_any-append (λ (x : Entry). opens_window window x.call x.reply) h (e ∷ []) ∙ ap (λ t. is_opened window h || t) (or-false (opens_window window e.call e.reply))

-- an entry that grants nothing opens no window
pub is_opened-idle : (h : List Entry) (e : Entry) → ((window : ℕ) → opens_window window e.call e.reply ≡ false) → (window : ℕ) → is_opened window (h ++ e ∷ []) ≡ is_opened window h
is_opened-idle h e opens_none window = is_opened-push window h e ∙ (ap (λ t. is_opened window h || t) (opens_none window) ∙ or-false (is_opened window h))

-- ---- the history before a window is opened

pub before_opened-stays : (window : ℕ) (h more : List Entry) → is_opened window h ≡ true → before_opened window (h ++ more) ≡ before_opened window h
before_opened-stays window [] more opened = absurd (true≢false (sym opened))
before_opened-stays window (e ∷ es) more opened = by_first (opens_window window e.call e.reply) opened (before_opened-stays window es more)
  where
    by_first : (t : Bool) → (t || is_opened window es) ≡ true → (is_opened window es ≡ true → before_opened window (es ++ more) ≡ before_opened window es)
        → cond t [] (e ∷ before_opened window (es ++ more)) ≡ cond t [] (e ∷ before_opened window es)
    by_first true opened rest = refl
    by_first false opened rest = ap (λ l. e ∷ l) (rest opened)

pub before_opened-first : (window : ℕ) (h : List Entry) (e : Entry) → is_opened window h ≡ false → opens_window window e.call e.reply ≡ true → before_opened window (h ++ e ∷ []) ≡ h
before_opened-first window [] e shut opens = ap (λ t. cond t [] (e ∷ [])) opens
before_opened-first window (x ∷ xs) e shut opens = by_first (opens_window window x.call x.reply) shut (λ shut_later. before_opened-first window xs e shut_later opens)
  where
    by_first : (t : Bool) → (t || is_opened window xs) ≡ false → (is_opened window xs ≡ false → before_opened window (xs ++ e ∷ []) ≡ xs)
        → cond t [] (x ∷ before_opened window (xs ++ e ∷ [])) ≡ x ∷ xs
    by_first true shut rest = absurd (true≢false shut)
    by_first false shut rest = ap (λ l. x ∷ l) (rest shut)

-- ---- what is carried

-- what a history carries into the window after one, if it hasn't opened that yet
abbrev pub carried_after : Limit → ℕ → List Entry → Cost
carried_after limit last h =
    cond limit.carry (handed_on limit (is_opened last h) (carried_in limit last h) (together (spent_in last h) (open_in last h))) nothing

-- once a window is opened, what is carried into it stays
pub carried_in-stays : (limit : Limit) (window : ℕ) (h more : List Entry) → is_opened window h ≡ true → carried_in limit window (h ++ more) ≡ carried_in limit window h
carried_in-stays limit zero h more opened = refl
carried_in-stays limit (suc last) h more opened = ap (carried_after limit last) (before_opened-stays (suc last) h more opened)

-- the entry that opens a window finds there what the history before it carries
pub carried_in-opened : (limit : Limit) (last : ℕ) (h : List Entry) (e : Entry) → is_opened (suc last) h ≡ false → opens_window (suc last) e.call e.reply ≡ true
    → carried_in limit (suc last) (h ++ e ∷ []) ≡ carried_after limit last h
carried_in-opened limit last h e shut opens = ap (carried_after limit last) (before_opened-first (suc last) h e shut opens)

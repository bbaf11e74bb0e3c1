-- Texts that are written piece by piece, and lists that are read item by item.
use Rattle.std.proofs.Common.{◌≡◌, ◌+◌, ◌<◌, ℕ, suc, List, ◌∷◌, ◌++◌, length, drop, get_or, sym, ap, ◌∙◌, arith, append_assoc, drop-cons}
use Rattle.serde_json.specs.Data.{item}
use Rattle.serde_json.specs.View.{view, items_view}
use Rattle.serde_json.specs.declared.value.Value.{Value}

-- a piece `t` and what follows it, behind what stands between two pieces
pub text_left : (before now mid after front t u whole : List ℕ) → now ++ (front ++ (t ++ u)) ≡ before ++ whole → mid ≡ now ++ front → after ≡ mid ++ t → after ++ u ≡ before ++ whole
text_left before now mid after front t u whole l m e =
    ap (λ x. x ++ u) (e ∙ ap (λ x. x ++ t) m) ∙ append_assoc (now ++ front) t u ∙ append_assoc now front (t ++ u) ∙ l

-- the items from the i-th on
pub items_from : (items : List Value) (i : ℕ) (v : Value) → i < length items → v ≡ get_or items i v → items_view (drop i items) ≡ item (view v) (items_view (drop (i + 1) items))
items_from items i v less is =
    let one_more : suc i ≡ i + 1 = omega arith in
    ap items_view (drop-cons items i v less ∙ ap (λ (x : Value). x ∷ drop (suc i) items) (sym is) ∙ ap (λ (j : ℕ). v ∷ drop j items) one_more)

-- The first lanes as they are split.
use Rattle.std.proofs.Common.{◌≡◌, ℕ, ◌+◌, ◌<◌, List, [], ◌∷◌, ◌++◌, refl, sym, ap, ◌∙◌, subst, arith, map, set, take, length, get_or, All}
use Rattle.account_cells.specs.Views.{View, after_split, split_off}
use Rattle.account_cells.proofs.Callers.{callers_after_split, callers_split_off}
use Rattle.account_shared.specs.declared.Lane.{Lane}
use Rattle.account_shared.specs.declared.Slot.{Slot}
use Rattle.account_shared.specs.Views.{Label, label_after_split, label_split_off, limit_of}
use Rattle.account_shared.specs.Inside.{lane_cell, lane_view, slot_cell, label_in, IsReady, AreLanes, IsFirst}
use Rattle.account_shared.proofs.Walks.{WalkedTo, walk_begins, next_is_old, walk_steps, grows_beside, map_twice}
use Rattle.account_shared.proofs.Lanes.{same_at, mapped_ready}

abbrev pub IsSplit : ℕ → Lane → Lane → Type 0
IsSplit k a b = (lane_cell b ≡ lane_cell a) × (lane_view b ≡ after_split (lane_view a))

-- how far a walk has come that splits each lane and lists the new ones
pub record SplitTo (i : ℕ) (old lanes into : List Lane) : Type 0 where
  pub walked : WalkedTo IsSplit i old lanes
  pub cells : map lane_cell into ≡ take i (map lane_cell old)
  pub views : map lane_view into ≡ take i (map (λ l. split_off (lane_view l)) old)

pub split_begins : (old into : List Lane) → into ≡ [] → SplitTo 0 old old into
split_begins old into empty = record { walked = walk_begins IsSplit old; cells = ap (map lane_cell) empty; views = ap (map lane_view) empty }

pub split_steps : (i : ℕ) (old lanes into : List Lane) (x y twin : Lane) → SplitTo i old lanes into → i < length old → x ≡ get_or lanes i x → IsSplit i x y → (lane_cell twin ≡ lane_cell x) × (lane_view twin ≡ split_off (lane_view x))
    → SplitTo (i + 1) old (set lanes i y) (into ++ twin ∷ [])
split_steps i old lanes into x y twin so_far low is split new =
    let was : x ≡ get_or old i x = next_is_old IsSplit i old lanes x so_far.walked is in
    record {
      walked = walk_steps IsSplit i old lanes x y so_far.walked low is split;
      cells = grows_beside lane_cell lane_cell i into twin old x so_far.cells low was new.0;
      views = grows_beside lane_view (λ l. split_off (lane_view l)) i into twin old x so_far.views low was new.1;
    }

-- a lane that is still to come is a pass to its slot's cell
pub cell_ahead : (i : ℕ) (old lanes : List Lane) (slots : List Slot) (R : ℕ → Lane → Lane → Type 0) (x : Lane) (s : Slot) → WalkedTo R i old lanes → map lane_cell old ≡ map slot_cell slots → i < length old → x ≡ get_or lanes i x
    → s ≡ get_or slots i s → lane_cell x ≡ slot_cell s
cell_ahead i old lanes slots R x s walked cells low is there = same_at lane_cell slot_cell old slots i x s cells low (next_is_old R i old lanes x walked is) there

-- and what held of all lanes holds of it
pub holds_ahead : (P : Lane → Type 0) (i : ℕ) (old lanes : List Lane) (R : ℕ → Lane → Lane → Type 0) (x : Lane) → WalkedTo R i old lanes → All P old → i < length old → x ≡ get_or lanes i x → P x
holds_ahead P i old lanes R x walked all low is = subst P (sym (next_is_old R i old lanes x walked is)) (all i x low)

-- ---- all together

pub first_by_label : (made : ℕ) (label : Label) (v : View) → label.name ≡ 0 → IsReady made label v → IsFirst v
first_by_label made label v first ready = (ready.live, ap (λ (l : Label). l.name) ready.known.same_label ∙ first)

pub lanes_first : (made : ℕ) (ls : List Lane) → AreLanes made ls → (label_in ls).name ≡ 0 → All (λ l. IsFirst (lane_view l)) ls
lanes_first made ls hold first k d low = first_by_label made (label_in ls) (lane_view (get_or ls k d)) first (hold.0 k d low)

ready_after_split : (made : ℕ) (label : Label) (v : View) → IsReady made label v → IsReady made (label_after_split label) (after_split v)
ready_after_split made label v ready = record {
  live = ready.live;
  compared = ready.compared;
  known = record {
    same_label = ap label_after_split ready.known.same_label;
    callers = callers_after_split v ready.known.callers;
    legal = ready.known.legal;
    own = ready.known.own;
    numbers = ready.known.numbers;
  };
}

ready_split_off : (made : ℕ) (label : Label) (v : View) → label.name ≡ 0 → IsReady made label v → IsReady 0 (label_split_off label) (split_off v)
ready_split_off made label v first ready = record {
  live = refl;
  compared = refl;
  known = record {
    same_label = ap label_split_off ready.known.same_label;
    callers = callers_split_off v;
    legal = ready.known.legal;
    own = (ready.known.callers (first_by_label made label v first ready).1).none_past (v.splits + 1) (omega arith);
    numbers = tt;
  };
}

pub lanes_after_split : (made : ℕ) (old lanes : List Lane) → map lane_view lanes ≡ map (λ l. after_split (lane_view l)) old → AreLanes made old → AreLanes made lanes × (label_in lanes ≡ label_after_split (label_in old))
lanes_after_split made old lanes shows hold =
    mapped_ready made (label_after_split (label_in old)) lanes (λ l. after_split (lane_view l)) old shows hold.1
    (λ k d low. ready_after_split made (label_in old) (lane_view (get_or old k d)) (hold.0 k d low))

pub lanes_split_off : (made : ℕ) (old into : List Lane) → (label_in old).name ≡ 0 → map lane_view into ≡ map (λ l. split_off (lane_view l)) old → AreLanes made old
    → AreLanes 0 into × (label_in into ≡ label_split_off (label_in old))
lanes_split_off made old into first shows hold =
    mapped_ready 0 (label_split_off (label_in old)) into (λ l. split_off (lane_view l)) old shows hold.1
    (λ k d low. ready_split_off made (label_in old) (lane_view (get_or old k d)) first (hold.0 k d low))

pub limits_after_split : (old lanes : List Lane) → map lane_view lanes ≡ map (λ l. after_split (lane_view l)) old → map limit_of (map lane_view lanes) ≡ map limit_of (map lane_view old)
limits_after_split old lanes shows =
    ap (map limit_of) shows ∙ (map_twice (λ (l : Lane). after_split (lane_view l)) limit_of old ∙ sym (map_twice lane_view limit_of old))

pub limits_split_off : (old into : List Lane) → map lane_view into ≡ map (λ l. split_off (lane_view l)) old → map limit_of (map lane_view into) ≡ map limit_of (map lane_view old)
limits_split_off old into shows =
    ap (map limit_of) shows ∙ (map_twice (λ (l : Lane). split_off (lane_view l)) limit_of old ∙ sym (map_twice lane_view limit_of old))

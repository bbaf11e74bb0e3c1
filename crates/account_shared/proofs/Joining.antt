-- The first lanes as others are joined to them, and as they close.
use Rattle.std.proofs.Common.{◌≡◌, ℕ, ◌+◌, ◌≤◌, ◌<◌, List, [], ◌∷◌, ◌++◌, ⊎_elim, true, false, nat_eq, nat_le, suc, refl, sym, ap, ◌∙◌, subst, arith, map, set, take, length, get_or, All}
use Rattle.std.proofs.lemmas.Bool.{cases_Bool, cond_both, eqb-true, eqb-false}
use Rattle.std.proofs.lemmas.List.{length-map, get_or_default, get_or-map, same_lists}
use lib.Seq.{take-suc}
use Rattle.account_core.specs.declared.Account.{Account}
use Rattle.account_core.specs.declared.Limit.{Limit}
use Rattle.account_core.specs.History.{IsLegal}
use Rattle.account_core.specs.Sums.{open_grants}
use Rattle.account_cells.specs.Views.{View, no_view, longer_of}
use Rattle.account_cells.specs.Outcomes.{IsNew}
use Rattle.account_shared.specs.declared.Lane.{Lane}
use Rattle.account_shared.specs.declared.Slot.{Slot}
use Rattle.account_shared.specs.Views.{Label, label_of, label_after_join, limit_of, ClosesTo, account_seen}
use Rattle.account_shared.specs.Inside.{lane_cell, lane_view, slot_cell, label_in, IsReady, AreLanes, IsIdleView, IsAlone, JoinsLane, JoinsReady}
use Rattle.account_shared.proofs.Walks.{WalkedTo, walk_begins, next_is_old, walk_steps}
use Rattle.account_shared.proofs.Lanes.{view_at, lanes_ready, shown_ready}

-- ---- the walk that joins

abbrev pub IsJoined : List View → ℕ → Lane → Lane → Type 0
IsJoined others k a b = JoinsLane (get_or others k no_view) a b

abbrev pub Anyhow : ℕ → Lane → Lane → Type 0
Anyhow k a b = Unit {0}

pub as_long : (ls more : List Lane) (slots : List Slot) → map lane_cell ls ≡ map slot_cell slots → map lane_cell more ≡ map slot_cell slots → length more ≡ length ls
as_long ls more slots a b = sym (length-map more lane_cell) ∙ (ap (λ l. length l) (b ∙ sym a) ∙ length-map ls lane_cell)

pub join_steps : (i : ℕ) (first others lanes theirs : List Lane) (x y other : Lane) → WalkedTo (IsJoined (map lane_view others)) i first lanes → WalkedTo Anyhow i others theirs → i < length first → i < length others → x ≡ get_or lanes i x
    → other ≡ get_or theirs i other → JoinsLane (lane_view other) x y → WalkedTo (IsJoined (map lane_view others)) (i + 1) first (set lanes i y)
join_steps i first others lanes theirs x y other walked theirs_walked low there is here joined =
    let shown : get_or (map lane_view others) i no_view ≡ lane_view other = view_at others i other there (next_is_old Anyhow i others theirs other theirs_walked here) in
    walk_steps (IsJoined (map lane_view others)) i first lanes x y walked low is (subst (λ w. JoinsLane w x y) (sym shown) joined)

-- ---- all together

longer_is_legal : (v w : View) → IsLegal v.limit v.seen → IsLegal w.limit w.seen → w.limit ≡ v.limit → IsLegal v.limit (longer_of v.seen w.seen)
longer_is_legal v w a b same = cond_both (nat_le (length w.seen) (length v.seen)) v.seen w.seen (IsLegal v.limit) (λ _. a) (λ _. subst (λ l. IsLegal l w.seen) same b)

-- the same limits, client by client
pub limits_each : (vs ws : List View) (limits : List Limit) → map limit_of vs ≡ limits → map limit_of ws ≡ limits → (k : ℕ) → k < length vs → (get_or ws k no_view).limit ≡ (get_or vs k no_view).limit
limits_each vs ws limits a b k low =
    let there : k < length ws = subst (λ (n : ℕ). k < n) (sym (length-map vs limit_of) ∙ (ap (λ (l : List Limit). length l) (a ∙ sym b) ∙ length-map ws limit_of)) low in
    sym (get_or-map limit_of ws k no_view (limit_of no_view) there) ∙ (ap (λ l. get_or l k (limit_of no_view)) (b ∙ sym a) ∙ get_or-map limit_of vs k no_view (limit_of no_view) low)

ready_after_join : (made other_made : ℕ) (label other_label : Label) (v w u : View) → IsReady made label v → IsReady other_made other_label w → w.limit ≡ v.limit → JoinsReady w v u → IsReady made (label_after_join label other_label) u
ready_after_join made other_made label other_label v w u mine theirs same joins =
    let is = joins.joins.same in
    record {
      live = ap (λ (x : View). x.live) is ∙ mine.live;
      compared = ap (λ (x : View). x.shown) is;
      known = record {
        same_label = ap label_of is ∙ (λ i. label_after_join (mine.known.same_label i) (theirs.known.same_label i));
        callers = joins.callers;
        legal = subst (λ (x : View). IsLegal x.limit x.seen) (sym is) (longer_is_legal v w mine.known.legal theirs.known.legal same);
        own = joins.own;
        numbers = subst (λ (x : View). IsNew x made) (sym is) mine.known.numbers;
      };
    }

pub lanes_after_join : (made other_made : ℕ) (ls lanes others : List Lane) → AreLanes made ls → AreLanes other_made others → length others ≡ length ls → length lanes ≡ length ls
    → ((k : ℕ) → k < length ls → JoinsReady (get_or (map lane_view others) k no_view) (get_or (map lane_view ls) k no_view) (get_or (map lane_view lanes) k no_view))
    → ((k : ℕ) → k < length ls → (get_or (map lane_view others) k no_view).limit ≡ (get_or (map lane_view ls) k no_view).limit)
    → AreLanes made lanes × (label_in lanes ≡ label_after_join (label_in ls) (label_in others))
lanes_after_join made other_made ls lanes others hold theirs same long joins limits =
    lanes_ready made (label_after_join (label_in ls) (label_in others)) lanes (subst (λ (n : ℕ). 0 < n) (sym long) hold.1)
    (λ k low.
    let here : k < length ls = subst (λ (n : ℕ). k < n) long low in
    ready_after_join made other_made (label_in ls) (label_in others) (get_or (map lane_view ls) k no_view) (get_or (map lane_view others) k no_view) (get_or (map lane_view lanes) k no_view)
    (shown_ready made (label_in ls) ls k hold.0 here) (shown_ready other_made (label_in others) others k theirs.0 (subst (λ (n : ℕ). k < n) (sym same) here)) (limits k here) (joins k here))

pub limits_after_join : (ls lanes others : List Lane) → length lanes ≡ length ls
    → ((k : ℕ) → k < length ls → JoinsReady (get_or (map lane_view others) k no_view) (get_or (map lane_view ls) k no_view) (get_or (map lane_view lanes) k no_view))
    → map limit_of (map lane_view lanes) ≡ map limit_of (map lane_view ls)
limits_after_join ls lanes others long joins =
    let news = map lane_view lanes in
    let olds = map lane_view ls in
    let many : length news ≡ length olds = length-map lanes lane_view ∙ (long ∙ sym (length-map ls lane_view)) in
    same_lists (map limit_of news) (map limit_of olds) (length-map news limit_of ∙ (many ∙ sym (length-map olds limit_of)))
    (λ k d low.
    let in_news : k < length news = subst (λ (n : ℕ). k < n) (length-map news limit_of) low in
    let in_olds : k < length olds = subst (λ (n : ℕ). k < n) many in_news in
    let join = joins k (subst (λ (n : ℕ). k < n) (length-map ls lane_view) in_olds) in
    get_or-map limit_of news k no_view d in_news ∙ (ap limit_of join.joins.same ∙ sym (get_or-map limit_of olds k no_view d in_olds)))

-- ---- the walk that closes

abbrev pub closing : Lane → Account
closing l = account_seen (lane_view l)

abbrev pub IsClosed : Lane → Type 0
IsClosed l = ClosesTo (lane_view l) (closing l)

pub record ClosedTo (i : ℕ) (old lanes : List Lane) (into : List Account) : Type 0 where
  pub walked : WalkedTo Anyhow i old lanes
  pub accounts : into ≡ take i (map closing old)
  pub closed : (k : ℕ) (d : Lane) → k < i → k < length old → IsClosed (get_or old k d)

pub close_begins : (old : List Lane) (into : List Account) → into ≡ [] → ClosedTo 0 old old into
close_begins old into empty = record { walked = walk_begins Anyhow old; accounts = empty; closed = λ k d low. absurd (omega (arith, low)) }

pub close_steps : (i : ℕ) (old lanes : List Lane) (into : List Account) (x y : Lane) (account : Account) → ClosedTo i old lanes into → i < length old → x ≡ get_or lanes i x → ClosesTo (lane_view x) account
    → ClosedTo (i + 1) old (set lanes i y) (into ++ account ∷ [])
close_steps i old lanes into x y account so_far low is closes =
    let was : x ≡ get_or old i x = next_is_old Anyhow i old lanes x so_far.walked is in
    let shown : account ≡ get_or (map closing old) i account = closes.same ∙ (ap closing was ∙ sym (get_or-map closing old i x account low)) in
    let here : IsClosed x = record { legal = closes.legal; same = refl; idle = ap (λ (a : Account). a.held) (sym closes.same) ∙ closes.idle } in
    record {
      walked = walk_steps Anyhow i old lanes x y so_far.walked low is tt;
      accounts = (λ j. so_far.accounts j ++ shown j ∷ [])
          ∙ (sym (take-suc (map closing old) i account (subst (λ (n : ℕ). i < n) (sym (length-map old closing)) low)) ∙ ap (λ n. take n (map closing old)) {x = suc i} {y = i + 1} (omega arith));
      closed = λ k d lt small. ⊎_elim
          (λ (e : nat_eq k i ≡ true). subst (λ j. IsClosed (get_or old j d)) (sym (eqb-true k i e)) (subst IsClosed (was ∙ get_or_default old i x d low) here))
          (λ (e : nat_eq k i ≡ false). let away = eqb-false k i e in so_far.closed k d (omega (arith, lt, away)) small)
          (cases_Bool (nat_eq k i));
    }

-- ---- what all lanes show, and what each is

each_lane : (P : View → Type 0) (ls : List Lane) → ((k : ℕ) → k < length ls → P (get_or (map lane_view ls) k no_view)) → All (λ l. P (lane_view l)) ls
each_lane P ls shown k d low = subst P (get_or-map lane_view ls k d no_view low) (shown k low)

pub each_view : (P : View → Type 0) (ls : List Lane) → All (λ l. P (lane_view l)) ls → (k : ℕ) → k < length ls → P (get_or (map lane_view ls) k no_view)
each_view P [] all k low = absurd (omega (arith, low))
each_view P (l ∷ ls) all k low = subst P (sym (get_or-map lane_view (l ∷ ls) k l no_view low)) (all k l low)

pub lanes_idle : (made : ℕ) (ls : List Lane) → AreLanes made ls → ((k : ℕ) → k < length (map lane_view ls) → open_grants (get_or (map lane_view ls) k no_view).own ≡ []) → All (λ l. IsIdleView (lane_view l)) ls
lanes_idle made ls hold idle k d low =
    let ready = hold.0 k d low in
    (ready.live, each_lane (λ v. open_grants v.own ≡ []) ls (λ j small. idle j (subst (λ (n : ℕ). j < n) (sym (length-map ls lane_view)) small)) k d low)

pub lanes_alone : (made : ℕ) (ls : List Lane) → AreLanes made ls → (label_in ls).out ≡ [] → ((k : ℕ) → k < length (map lane_view ls) → open_grants (get_or (map lane_view ls) k no_view).own ≡ [])
    → All (λ l. IsAlone (lane_view l)) ls
lanes_alone made ls hold nobody_out idle k d low =
    let ready = hold.0 k d low in
    (ap (λ (l : Label). l.out) ready.known.same_label ∙ nobody_out, (lanes_idle made ls hold idle k d low).1)

pub lanes_count : (ls : List Lane) (vs : List View) → map lane_view ls ≡ vs → length vs ≡ length ls
lanes_count ls vs is = ap (λ (l : List View). length l) (sym is) ∙ length-map ls lane_view

pub cells_count : (ls more : List Lane) → map lane_cell more ≡ map lane_cell ls → length more ≡ length ls
cells_count ls more same = sym (length-map more lane_cell) ∙ (ap (λ l. length l) same ∙ length-map ls lane_cell)

-- where the room serves for all slots, it serves for all lanes
pub room_for_lanes : (ls : List Lane) (slots : List Slot) (room : ℕ) → map lane_cell ls ≡ map slot_cell slots → length slots ≤ room → length ls ≤ room
room_for_lanes ls slots room same le = subst (λ (n : ℕ). n ≤ room) (sym (length-map slots slot_cell) ∙ (ap (λ l. length l) (sym same) ∙ length-map ls lane_cell)) le

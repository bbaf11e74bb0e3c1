-- Lanes that are ready under one label, and the one lane of them that makes a call.
use Rattle.std.proofs.Common.{◌≡◌, ℕ, ◌+◌, ◌<◌, List, [], ◌∷◌, refl, sym, ap, ◌∙◌, subst, arith, map, set, length, get_or, All}
use Rattle.std.proofs.lemmas.List.{map-set, length-map, length-set, get_or-set_same, get_or-set_other, get_or_default, get_or-map as map_at}
use Rattle.std.proofs.Math.Seq.{map-set_same}
use Rattle.std.proofs.Math.ListN.{get_or-map}
use Rattle.std.proofs.lemmas.List.Elements.{All-set}
use Rattle.account_core.specs.declared.Limit.{Limit}
use Rattle.account_core.specs.Machine.{Call, CallReply, entry}
use Rattle.account_core.specs.History.{entries_by, IsLegal}
use Rattle.account_core.proofs.AllowanceLaw.{keeps}
use Rattle.account_cells.specs.Views.{View, no_view}
use Rattle.account_cells.specs.Outcomes.{CallsOnce, IsFor}
use Rattle.account_cells.proofs.Loops.{next_is_new, numbers_below-more, own_after}
use Rattle.account_shared.specs.declared.Lane.{Lane}
use Rattle.account_shared.specs.declared.Slot.{Slot}
use Rattle.account_shared.specs.Views.{Label, label_of, PassesView, limit_of, client_at, KnowsClients, IsKept}
use Rattle.account_shared.specs.Gains.{client_call, GoesOn, Gains}
use Rattle.account_shared.specs.Inside.{lane_cell, lane_view, slot_limit, label_in, IsReady, IsLane, AreLanes}
use Rattle.account_shared.proofs.Walks.{map_twice}
use Rattle.account_shared.proofs.Stretches.{goes_on_by, one_gained}

-- ---- what lists of lanes show at a place

-- where two lists show the same, their elements at a place do
pub same_at : {A B C : Type 0} (f : A → C) (g : B → C) (xs : List A) (ys : List B) (i : ℕ) (x : A) (y : B) → map f xs ≡ map g ys → i < length xs → x ≡ get_or xs i x → y ≡ get_or ys i y → f x ≡ g y
same_at f g xs ys i x y same low here there =
    let in_ys : i < length (map g ys) = subst (λ l. i < length l) same (subst (λ (n : ℕ). i < n) (sym (length-map xs f)) low) in
    ap f here ∙ (sym (get_or-map f xs i x) ∙ (ap (λ l. get_or l i (f x)) same ∙ (get_or_default (map g ys) i (f x) (g y) in_ys ∙ (get_or-map g ys i y ∙ ap g (sym there)))))

pub view_at : (ls : List Lane) (i : ℕ) (l : Lane) → i < length ls → l ≡ get_or ls i l → get_or (map lane_view ls) i no_view ≡ lane_view l
view_at ls i l low there = map_at lane_view ls i l no_view low ∙ ap lane_view (sym there)

view_set : (ls : List Lane) (i : ℕ) (l : Lane) → i < length ls → get_or (map lane_view (set ls i l)) i no_view ≡ lane_view l
view_set ls i l low =
    ap (λ vs. get_or vs i no_view) (map-set lane_view ls i l) ∙ get_or-set_same (map lane_view ls) i (lane_view l) no_view (subst (λ (n : ℕ). i < n) (sym (length-map ls lane_view)) low)

view_other : (ls : List Lane) (i : ℕ) (l : Lane) (k : ℕ) → (k ≡ i → ⊥) → get_or (map lane_view (set ls i l)) k no_view ≡ get_or (map lane_view ls) k no_view
view_other ls i l k away = ap (λ vs. get_or vs k no_view) (map-set lane_view ls i l) ∙ get_or-set_other (map lane_view ls) i k (lane_view l) no_view away

shows_same : {C : Type 0} (f : Lane → C) (ls : List Lane) (i : ℕ) (old new : Lane) → f new ≡ f old → old ≡ get_or ls i old → map f (set ls i new) ≡ map f ls
shows_same f ls i old new same there = map-set_same f ls i new old (same ∙ ap f there)

-- a client that the limits count has a lane
pub has_lane : (ls : List Lane) (i : ℕ) (limits : List Limit) → map limit_of (map lane_view ls) ≡ limits → i < length limits → i < length ls
has_lane ls i limits is low =
    subst (λ (n : ℕ). i < n) (ap (λ (l : List Limit). length l) (sym is) ∙ (length-map (map lane_view ls) limit_of ∙ length-map ls lane_view)) low

-- ---- lanes that are ready under one label

pub shown_ready : (made : ℕ) (label : Label) (ls : List Lane) (k : ℕ) → All (IsLane made label) ls → k < length ls → IsReady made label (get_or (map lane_view ls) k no_view)
shown_ready made label [] k hold low = absurd (omega (arith, low))
shown_ready made label (l ∷ ls) k hold low = subst (IsReady made label) (sym (map_at lane_view (l ∷ ls) k l no_view low)) (hold k l low)

label_shown : (ls : List Lane) → label_in ls ≡ label_of (get_or (map lane_view ls) 0 no_view)
label_shown [] = refl
label_shown (l ∷ ls) = refl

pub lanes_ready : (made : ℕ) (label : Label) (ls : List Lane) → 0 < length ls → ((k : ℕ) → k < length ls → IsReady made label (get_or (map lane_view ls) k no_view))
    → AreLanes made ls × (label_in ls ≡ label)
lanes_ready made label ls some each =
    let first : IsReady made label (get_or (map lane_view ls) 0 no_view) = each 0 some in
    let same : label_in ls ≡ label = label_shown ls ∙ first.known.same_label in
    let all : All (IsLane made label) ls = λ k d low. subst (IsReady made label) (map_at lane_view ls k d no_view low) (each k low) in
    ((subst (λ l. All (IsLane made l) ls) (sym same) all, some), same)

-- lanes that show what other values turn into
pub mapped_ready : {X : Type 0} (made : ℕ) (label : Label) (ls : List Lane) (f : X → View) (xs : List X) → map lane_view ls ≡ map f xs → 0 < length xs
    → ((k : ℕ) (d : X) → k < length xs → IsReady made label (f (get_or xs k d))) → AreLanes made ls × (label_in ls ≡ label)
mapped_ready made label ls f [] shows some each = absurd (omega (arith, some))
mapped_ready made label ls f (x ∷ xs) shows some each =
    let long : length ls ≡ length (x ∷ xs) = sym (length-map ls lane_view) ∙ (ap (λ l. length l) shows ∙ length-map (x ∷ xs) f) in
    lanes_ready made label ls (subst (λ (n : ℕ). 0 < n) (sym long) some)
    (λ k low.
    let here : k < length (x ∷ xs) = subst (λ (n : ℕ). k < n) long low in
    subst (IsReady made label) (sym (ap (λ l. get_or l k no_view) shows ∙ map_at f (x ∷ xs) k x no_view here)) (each k x here))

pub all_known : (made : ℕ) (ls : List Lane) → AreLanes made ls → KnowsClients (label_in ls) made (map lane_view ls)
all_known made ls hold k low =
    let ready = shown_ready made (label_in ls) ls k hold.0 (subst (λ (n : ℕ). k < n) (length-map ls lane_view) low) in
    ready.known

-- what they have seen keeps to the allowance
pub all_kept : (made : ℕ) (ls : List Lane) → AreLanes made ls → (k : ℕ) → k < length (map lane_view ls) → IsKept (get_or (map lane_view ls) k no_view)
all_kept made ls hold k low =
    let known = all_known made ls hold k low in
    let v = get_or (map lane_view ls) k no_view in
    record { legal = known.legal; kept = keeps v.limit v.seen known.legal }

-- the lane of a client is ready for its slot's limit
pub lane_at : (made : ℕ) (ls : List Lane) (i : ℕ) (l : Lane) → AreLanes made ls → i < length ls → l ≡ get_or ls i l → IsLane made (label_in ls) l
lane_at made ls i l hold low there = subst (IsLane made (label_in ls)) (sym there) (hold.0 i l low)

pub lane_for : (made : ℕ) (ls : List Lane) (ss : List Slot) (i : ℕ) (l : Lane) (s : Slot) → AreLanes made ls → map limit_of (map lane_view ls) ≡ map slot_limit ss → i < length ls → l ≡ get_or ls i l → s ≡ get_or ss i s
    → IsFor s.limit (lane_view l)
lane_for made ls ss i l s hold same low there here =
    let ready = lane_at made ls i l hold low there in
    let limit : (lane_view l).limit ≡ s.limit =
    same_at (λ (x : Lane). (lane_view x).limit) slot_limit ls ss i l s (sym (map_twice lane_view limit_of ls) ∙ same) low there here in
    (ready.live, limit, ready.compared)

-- ---- one lane makes a call

module _ (made : ℕ) (ls : List Lane) (i : ℕ) (old new : Lane) (call : Call) (reply : CallReply) (hold : AreLanes made ls) (low : i < length ls) (there : old ≡ get_or ls i old)
    (cell : lane_cell new ≡ lane_cell old) (called : CallsOnce (lane_view old) (entry (lane_view old).name made call reply) (lane_view new)) where
  before_call : IsLane made (label_in ls) old
  before_call = lane_at made ls i old hold low there

  limit_stays : (lane_view new).limit ≡ (lane_view old).limit
  limit_stays = ap limit_of called.1.3

  label_stays : label_in (set ls i new) ≡ label_in ls
  label_stays = ap (λ ks. get_or ks 0 (label_of no_view)) (shows_same (λ (l : Lane). label_of (lane_view l)) ls i old new (ap label_of called.1.3) there)

  after_call : IsLane (made + 1) (label_in ls) new
  after_call =
      let v = lane_view old in
      let e = entry v.name made call reply in
      let is = called.1.3 in
      let before = before_call in
      record {
        live = ap (λ (u : View). u.live) is ∙ before.live;
        compared = ap (λ (u : View). u.shown) is;
        known = record {
          same_label = ap label_of is ∙ before.known.same_label;
          callers = called.1.4;
          legal = subst (λ (u : View). IsLegal u.limit u.seen) (sym is) called.1.2;
          own = subst (λ (u : View). entries_by u.name u.seen ≡ u.own) (sym is) (own_after v (lane_view new) made call reply called.0 called.1);
          numbers = next_is_new v (lane_view new) made call reply called.0 before.known.numbers called.1;
        };
      }

  widened : (k : ℕ) (d : Lane) → k < length ls → IsLane (made + 1) (label_in ls) (get_or ls k d)
  widened k d small =
      let was : IsLane made (label_in ls) (get_or ls k d) = hold.0 k d small in
      record {
        live = was.live;
        compared = was.compared;
        known = record {
          same_label = was.known.same_label;
          callers = was.known.callers;
          legal = was.known.legal;
          own = was.known.own;
          numbers = numbers_below-more made (made + 1) (lane_view (get_or ls k d)).own (omega arith) was.known.numbers;
        };
      }

  pub lanes_stay : AreLanes (made + 1) (set ls i new)
  lanes_stay = (
    subst (λ label. All (IsLane (made + 1) label) (set ls i new)) (sym label_stays) (All-set (IsLane (made + 1) (label_in ls)) ls i new after_call widened),
    subst (λ (n : ℕ). 0 < n) (sym (length-set ls i new)) hold.1,
  )

  pub cells_stay : map lane_cell (set ls i new) ≡ map lane_cell ls
  cells_stay = shows_same lane_cell ls i old new cell there

  pub limits_stay : map limit_of (map lane_view (set ls i new)) ≡ map limit_of (map lane_view ls)
  limits_stay =
      map_twice lane_view limit_of (set ls i new)
      ∙ (shows_same (λ (l : Lane). (lane_view l).limit) ls i old new limit_stays there ∙ sym (map_twice lane_view limit_of ls))

  pub called_gains : Gains (record { made = made; label = label_in ls; cells = map lane_cell ls; clients = map lane_view ls })
      (record { made = made + 1; label = label_in (set ls i new); cells = map lane_cell (set ls i new); clients = map lane_view (set ls i new) }) (client_call i call reply ∷ [])
  called_gains =
      let v = lane_view old in
      let p : PassesView = record { made = made; label = label_in ls; cells = map lane_cell ls; clients = map lane_view ls } in
      let q : PassesView = record { made = made + 1; label = label_in (set ls i new); cells = map lane_cell (set ls i new); clients = map lane_view (set ls i new) } in
      let before = before_call in
      let named : v.name ≡ (label_in ls).name = ap (λ (l : Label). l.name) before.known.same_label in
      one_gained p q i call reply (record {
        label = label_stays;
        cells = cells_stay;
        limits = limits_stay;
        made = refl;
        others = λ k away. view_other ls i new k away;
        goes_on =
            subst (λ u. GoesOn (label_in ls).name u (client_at q i) (entry (label_in ls).name made call reply ∷ [])) (sym (view_at ls i old low there))
            (subst (λ w. GoesOn (label_in ls).name v w (entry (label_in ls).name made call reply ∷ [])) (sym (view_set ls i new low))
            (subst (λ n. GoesOn n v (lane_view new) (entry n made call reply ∷ [])) named
            (goes_on_by v (lane_view new) made call reply before.known.numbers before.known.own called)));
      })

  pub view_now : get_or (map lane_view (set ls i new)) i no_view ≡ lane_view new
  view_now = view_set ls i new low

  pub named_now : (get_or (map lane_view (set ls i new)) i no_view).name ≡ (label_in (set ls i new)).name
  named_now =
      let after = after_call in
      ap (λ (v : View). v.name) view_now ∙ (ap (λ (l : Label). l.name) after.known.same_label ∙ sym (ap (λ (l : Label). l.name) label_stays))

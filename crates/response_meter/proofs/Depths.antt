-- What stands in a JSON value is less deep.
use Rattle.std.proofs.Common.{◌≡◌, ◌≤◌, ◌<◌, ℕ, zero, suc, max, List, [], ◌∷◌, length, get_or, option_map, Option, Some, None, IfSome, ap, arith}
use Rattle.std.specs.Borrow.{Bor}
use Rattle.std.specs.Cmp.Lexicographic.{slice_cmp}
use Rattle.std.specs.Ordering.{nat_cmp, match_ordering}
use Rattle.std.specs.declared.cmp.Ordering.{Ordering}
use Rattle.std.specs.declared.cmp.Ordering.TheVariants.{Less, Equal, Greater}
use Rattle.serde_json.specs.Data.{Data, null as json_null, boolean, number, string, array, object as json_object, Items, Members, no_members, member, depth, items_depth, members_depth}
use Rattle.serde_json.specs.Find.{as_array, as_object, get_member}
use Rattle.serde_json.specs.View.{view, items_view}
use Rattle.serde_json.specs.declared.value.Value.{Value}
use Rattle.response_meter.proofs.Passing.{some_none}

pub members_less : (d : Data) (ms : Members) → Some ms ≡ as_object d → members_depth ms < depth d
members_less json_null ms h = some_none h
members_less (boolean b) ms h = some_none h
members_less (number n) ms h = some_none h
members_less (string s) ms h = some_none h
members_less (array ds) ms h = some_none h
members_less (json_object ns) ms h = let same = ap deep h in omega arith
  where
    deep : Option Members → ℕ
    deep None = 0
    deep (Some x) = members_depth x

pub items_less : (d : Data) (ds : Items) → Some ds ≡ as_array d → items_depth ds < depth d
items_less json_null ds h = some_none h
items_less (boolean b) ds h = some_none h
items_less (number n) ds h = some_none h
items_less (string s) ds h = some_none h
items_less (json_object ms) ds h = some_none h
items_less (array es) ds h = let same = ap deep h in omega arith
  where
    deep : Option Items → ℕ
    deep None = 0
    deep (Some x) = items_depth x

pub member_less : (key : List ℕ) (ms : Members) (d : Data) → Some d ≡ get_member key ms → depth d ≤ members_depth ms
member_less key no_members d h = some_none h
member_less key (member k x ms) d h = by (slice_cmp nat_cmp key k) h (λ e. member_less key ms d e)
  where
    deep : Option Data → ℕ
    deep None = 0
    deep (Some y) = depth y

    by : (o : Ordering) → Some d ≡ match_ordering o (get_member key ms) (Some x) (get_member key ms) → (Some d ≡ get_member key ms → depth d ≤ members_depth ms) → depth d ≤ max (depth x) (members_depth ms)
    by Less e later = let less = later e in omega arith
    by Equal e later = let same = ap deep e in omega arith
    by Greater e later = let less = later e in omega arith

pub item_less : (vs : List Value) (i : ℕ) (v : Value) → i < length vs → v ≡ get_or vs i v → depth (view v) ≤ items_depth (items_view vs)
item_less [] i v less is = absurd (none less)
  where
    none : i < 0 → ⊥
    none l = omega arith
item_less (x ∷ vs) zero v less is = let same = ap (λ y. depth (view y)) is in omega arith
item_less (x ∷ vs) (suc i) v less is = let later = item_less vs i v (omega arith) is in omega arith

pub member_within : (key : List ℕ) (ms : Members) (o : Option (Bor Value)) → option_map (λ v. view v.now) o ≡ get_member key ms → IfSome o (λ v. depth (view v.now) ≤ members_depth ms)
member_within key ms None h = tt
member_within key ms (Some v) h = member_less key ms (view v.now) h

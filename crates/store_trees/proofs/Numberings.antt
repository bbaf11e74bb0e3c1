-- Clients that are added behind others, and the numbers of sums among them.
use Rattle.std.proofs.Common.{◌≡◌, ℕ, pos, ◌<◌, ◌+◌, ◌^◌, true, false, cond, List, [], ◌∷◌, ◌++◌, map, None, Some, Option, is_some, Ordering, Less, Equal, Greater, is_eq, ◌≤◌, nat_eq, refl, sym, ap, subst, ◌∙◌, inl, inr, append_assoc, append-nil, arith, length, take, drop, get_or, suc, drop-cons}
use Rattle.std.specs.List.{AllByRecursion}
use Rattle.std.specs.Ordering.{nat_cmp, ordering_reverse}
use Rattle.std.specs.Cmp.Lexicographic.{slice_cmp}
use Rattle.std.proofs.lemmas.Bool.{cases_Bool, cond-true, cond-false, ne_eqb}
use Rattle.std.proofs.lemmas.Cmp.{nat_list_cmp_total}
use Rattle.sqlite_value.specs.declared.value.Value.TheVariants.{Int}
use Rattle.sqlite_value.specs.Order.{Row, value_cmp}
use Rattle.std.proofs.lemmas.List.{take_more, drop_at, get_or_default, length-append}
use Rattle.sqlite_trees.specs.View.{View, SetsTree}
use Rattle.sqlite_trees.specs.Tree.{Trees, rowid, put_row, with_tree}
use Rattle.store_trees.specs.Tables.{client_tree, account_tree, grant_tree, AgreeOnRows}
use Rattle.store_trees.specs.Clients.{client_row, is_sum, number_of, AreDistinct, AreRising, AreKnown, AreClients, HaveRoom, AreNew, IsNext, next_from, HaveNumbers, Grows, clients_put, PutsClients, Enters}
use Rattle.store_trees.proofs.Rowids.{id_below, put_last}

abbrev Client : Type 0
Client = ℕ × List ℕ

-- what is the sum of one is that of each with the same sum
other_sum : (a b c : List ℕ) → is_sum a b ≡ true → is_sum a c ≡ is_sum b c
other_sum a b c same = ap is_eq (nat_list_cmp_total.congr a b c (is_equal (slice_cmp nat_cmp a b) same))
  where
    is_equal : (o : Ordering) → is_eq o ≡ true → o ≡ Equal
    is_equal Less e = absurd cc
    is_equal Equal e = refl
    is_equal Greater e = absurd cc

own_sum : (a : List ℕ) → is_sum a a ≡ true
own_sum a = itself (slice_cmp nat_cmp a a) (nat_list_cmp_total.antisymm a a)
  where
    itself : (o : Ordering) → o ≡ ordering_reverse o → is_eq o ≡ true
    itself Less e = absurd cc
    itself Equal e = refl
    itself Greater e = absurd cc

turned : (a b : List ℕ) → is_sum a b ≡ true → is_sum b a ≡ true
turned a b same = sym (other_sum a b a same) ∙ own_sum a

-- a sum that is new is new among the later ones
later : (c : Client) (cs : List Client) (sum : List ℕ) → number_of (c ∷ cs) sum ≡ None → number_of cs sum ≡ None
later c cs sum new = elim (cases_Bool (is_sum c.1 sum)) [
  | inl here ↦ absurd (let e : Some c.0 ≡ None = sym (cond-true (is_sum c.1 sum) (Some c.0) (number_of cs sum) here) ∙ new in cc)
  | inr past ↦ sym (cond-false (is_sum c.1 sum) (Some c.0) (number_of cs sum) past) ∙ new
]

pub number_push : (cs : List Client) (n : ℕ) (sum q : List ℕ) → number_of cs sum ≡ None → cond (is_sum sum q) (Some n) (number_of cs q) ≡ number_of (cs ++ (n, sum) ∷ []) q
number_push [] n sum q new = refl
number_push (c ∷ cs) n sum q new = elim (cases_Bool (is_sum c.1 q)) [
  | inl here ↦ elim (cases_Bool (is_sum sum q)) [
    | inl also ↦ absurd (
        let both : is_sum c.1 sum ≡ true = other_sum c.1 q sum here ∙ turned sum q also in
        let e : Some c.0 ≡ None = sym (cond-true (is_sum c.1 sum) (Some c.0) (number_of cs sum) both) ∙ new in cc)
    | inr not ↦ cond-false (is_sum sum q) (Some n) _ not ∙ (cond-true (is_sum c.1 q) (Some c.0) (number_of cs q) here ∙ sym (cond-true (is_sum c.1 q) (Some c.0) (number_of (cs ++ (n, sum) ∷ []) q) here))
  ]
  | inr past ↦
      ap (cond (is_sum sum q) (Some n)) (cond-false (is_sum c.1 q) (Some c.0) (number_of cs q) past)
      ∙ (number_push cs n sum q (later c cs sum new) ∙ sym (cond-false (is_sum c.1 q) (Some c.0) (number_of (cs ++ (n, sum) ∷ []) q) past))
]

not_first : (c : Client) (cs : List Client) (sum : List ℕ) → number_of (c ∷ cs) sum ≡ None → is_sum c.1 sum ≡ false
not_first c cs sum new = elim (cases_Bool (is_sum c.1 sum)) [
  | inl here ↦ absurd (let e : Some c.0 ≡ None = sym (cond-true (is_sum c.1 sum) (Some c.0) (number_of cs sum) here) ∙ new in cc)
  | inr past ↦ past
]

not_turned : (a b : List ℕ) → is_sum a b ≡ false → is_sum b a ≡ false
not_turned a b apart = elim (cases_Bool (is_sum b a)) [
  | inl same ↦ absurd (let e = sym apart ∙ turned b a same in cc)
  | inr down ↦ down
]

pub distinct_push : (cs : List Client) (n : ℕ) (sum : List ℕ) → AreDistinct cs → number_of cs sum ≡ None → AreDistinct (cs ++ (n, sum) ∷ [])
distinct_push [] n sum distinct new = (refl, tt)
distinct_push (c ∷ cs) n sum distinct new = (
  sym (number_push cs n sum c.1 (later c cs sum new))
      ∙ (cond-false (is_sum sum c.1) (Some n) (number_of cs c.1) (not_turned c.1 sum (not_first c cs sum new)) ∙ distinct.0),
  distinct_push cs n sum distinct.1 (later c cs sum new),
)

all_push : (P : Client → Type 0) (cs : List Client) (c : Client) → AllByRecursion P cs → P c → AllByRecursion P (cs ++ c ∷ [])
all_push P [] c all one = (one, tt)
all_push P (x ∷ xs) c all one = (all.0, all_push P xs c all.1 one)

pub rising_push : (cs : List Client) (n : ℕ) (sum : List ℕ) → AreRising cs → AllByRecursion (λ c. c.0 < n) cs → AreRising (cs ++ (n, sum) ∷ [])
rising_push [] n sum rising below = (tt, tt)
rising_push (c ∷ cs) n sum rising below = (all_push (λ other. c.0 < other.0) cs (n, sum) rising.0 below.0, rising_push cs n sum rising.1 below.1)

-- what is below a number is below a later one
pub all_below : (cs : List Client) (n m : ℕ) → n ≤ m → AllByRecursion (λ c. c.0 < n) cs → AllByRecursion (λ c. c.0 < m) cs
all_below [] n m le all = tt
all_below (c ∷ cs) n m le all = (omega (arith, le, all.0), all_below cs n m le all.1)

pub below_push : (cs : List Client) (n next : ℕ) (sum : List ℕ) → next ≤ n → AllByRecursion (λ c. c.0 < next) cs → AllByRecursion (λ c. c.0 < n + 1) (cs ++ (n, sum) ∷ [])
below_push cs n next sum le all = all_push (λ c. c.0 < n + 1) cs (n, sum) (all_below cs next (n + 1) (omega (arith, le)) all) (omega arith)

-- the first row with a sum stays it behind more rows
pub number_stays : (cs more : List Client) (sum : List ℕ) (n : ℕ) → number_of cs sum ≡ Some n → number_of (cs ++ more) sum ≡ Some n
number_stays [] more sum n found = absurd cc
number_stays (c ∷ cs) more sum n found = elim (cases_Bool (is_sum c.1 sum)) [
  | inl here ↦ cond-true (is_sum c.1 sum) (Some c.0) _ here ∙ (sym (cond-true (is_sum c.1 sum) (Some c.0) (number_of cs sum) here) ∙ found)
  | inr past ↦ cond-false (is_sum c.1 sum) (Some c.0) _ past ∙ number_stays cs more sum n (sym (cond-false (is_sum c.1 sum) (Some c.0) (number_of cs sum) past) ∙ found)
]

-- and so do the numbers of all
pub numbers_stay : (cs more : List Client) (sums : List (List ℕ)) (ns : List ℕ) → HaveNumbers cs sums ns → HaveNumbers (cs ++ more) sums ns
numbers_stay cs more [] [] have = refl
numbers_stay cs more [] (n ∷ ns) have = absurd cc
numbers_stay cs more (s ∷ ss) [] have = absurd cc
numbers_stay cs more (s ∷ ss) (n ∷ ns) have =
    let first : number_of cs s ≡ Some n = cc in
    let rest : HaveNumbers cs ss ns = cc in
    λ i. number_stays cs more s n first i ∷ numbers_stay cs more ss ns rest i

map_one : {X Y : Type 0} (f : X → Y) (xs : List X) (x : X) → map f (xs ++ x ∷ []) ≡ map f xs ++ f x ∷ []
map_one f [] x = refl
map_one f (y ∷ ys) x = ap (λ zs. f y ∷ zs) (map_one f ys x)

pub numbers_push : (cs : List Client) (sums : List (List ℕ)) (ns : List ℕ) (sum : List ℕ) (n : ℕ) → HaveNumbers cs sums ns → number_of cs sum ≡ Some n → HaveNumbers cs (sums ++ sum ∷ []) (ns ++ n ∷ [])
numbers_push cs sums ns sum n have found =
    map_one (number_of cs) sums sum ∙ ((λ i. have i ++ found i ∷ []) ∙ sym (map_one Some ns n))

-- ---- rows that are put

rows_below : (cs : List Client) (n : ℕ) → AllByRecursion (λ c. c.0 < n) cs → AllByRecursion (λ r. value_cmp (rowid r) (Int (pos n)) ≡ Less) (map client_row cs)
rows_below [] n all = tt
rows_below (c ∷ cs) n all = (id_below c.0 n all.0, rows_below cs n all.1)

-- those before one are below it
before_one : (cs : List Client) (c : Client) (rest : List Client) → AreRising (cs ++ c ∷ rest) → AllByRecursion (λ b. b.0 < c.0) cs
before_one [] c rest rising = tt
before_one (x ∷ xs) c rest rising = (at_one xs c rest x rising.0, before_one xs c rest rising.1)
  where
    at_one : (ys : List Client) (c : Client) (rest : List Client) (x : Client) → AllByRecursion (λ other. x.0 < other.0) (ys ++ c ∷ rest) → x.0 < c.0
    at_one [] c rest x all = all.0
    at_one (y ∷ ys) c rest x all = at_one ys c rest x all.1

-- rows of rising numbers are put behind those that are there
pub put_behind : (trees : Trees) (cs more : List Client) → trees client_tree ≡ map client_row cs → AreRising (cs ++ more) → clients_put trees more client_tree ≡ map client_row (cs ++ more)
put_behind trees cs [] there rising = there ∙ ap (map client_row) (sym (append-nil cs))
put_behind trees cs (c ∷ more) there rising =
    let next = with_tree trees client_tree (put_row (client_row c) (trees client_tree)) in
    let now : next client_tree ≡ map client_row (cs ++ c ∷ []) =
    ap (put_row (client_row c)) there ∙ (put_last (client_row c) (map client_row cs) (rows_below cs c.0 (before_one cs c more rising)) ∙ sym (map_one client_row cs c)) in
    put_behind next (cs ++ c ∷ []) more now (subst AreRising (sym (append_assoc cs (c ∷ []) more)) rising) ∙ ap (map client_row) (append_assoc cs (c ∷ []) more)

pub others_stay : (trees : Trees) (more : List Client) (tree : ℕ) → nat_eq tree client_tree ≡ false → clients_put trees more tree ≡ trees tree
others_stay trees [] tree other = refl
others_stay trees (c ∷ more) tree other =
    others_stay (with_tree trees client_tree (put_row (client_row c) (trees client_tree))) more tree other ∙ cond-false (nat_eq tree client_tree) _ (trees tree) other

pub puts_both : (trees : Trees) (xs ys : List Client) → clients_put trees (xs ++ ys) ≡ clients_put (clients_put trees xs) ys
puts_both trees [] ys = refl
puts_both trees (x ∷ xs) ys = puts_both (with_tree trees client_tree (put_row (client_row x) (trees client_tree))) xs ys

-- one more of a list is put
pub puts_on : (a b c : View) (all : List Client) (i : ℕ) (d : Client) → i < length all → PutsClients a b (take i all) → PutsClients b c (get_or all i d ∷ []) → PutsClients a c (take (i + 1) all)
puts_on a b c all i d low p q = record {
  sound = q.sound ∙ p.sound;
  trees =
      q.trees
      ∙ (ap (λ t. clients_put t (get_or all i d ∷ [])) p.trees
      ∙ (sym (puts_both a.trees (take i all) (get_or all i d ∷ [])) ∙ ap (clients_put a.trees) (sym (take_more all i d low))));
  committed = q.committed ∙ p.committed;
}

-- one client is put
pub puts_one : (a b : View) (c : Client) → SetsTree a b client_tree (put_row (client_row c)) → PutsClients a b (c ∷ [])
puts_one a b c s = record {
  sound = ap (λ (v : View). v.is_broken) s.is;
  trees = ap (λ (v : View). v.trees) s.is;
  committed = ap (λ (v : View). v.committed) s.is;
}

pub none_if : (o : Option ℕ) → is_some o ≡ false → o ≡ None
none_if None none = refl
none_if (Some n) none = absurd cc

pub push_finds : (cs : List Client) (n : ℕ) (sum : List ℕ) → number_of cs sum ≡ None → number_of (cs ++ (n, sum) ∷ []) sum ≡ Some n
push_finds cs n sum new = sym (number_push cs n sum sum new) ∙ cond-true (is_sum sum sum) (Some n) (number_of cs sum) (own_sum sum)

next_push : (next : ℕ) (cs : List Client) (n : ℕ) (sum : List ℕ) → next_from next (cs ++ (n, sum) ∷ []) ≡ n + 1
next_push next [] n sum = refl
next_push next (c ∷ cs) n sum = next_push (c.0 + 1) cs n sum

-- clients with one behind them
pub known_push : (cs : List Client) (next n : ℕ) (sum : List ℕ) → AreKnown cs next → next ≤ n → number_of cs sum ≡ None → AreKnown (cs ++ (n, sum) ∷ []) (n + 1)
known_push cs next n sum known le new = record {
  distinct = distinct_push cs n sum known.distinct new;
  rising = rising_push cs n sum known.rising (all_below cs next n le known.below);
  below = below_push cs n next sum le known.below;
  is_next = sym (next_push 0 cs n sum);
}

-- the numbers of so many sums, and of the next one
pub numbered_on : (old mid : List Client) (all : List (List ℕ)) (i : ℕ) (d : List ℕ) (ns new : List ℕ) (n : ℕ) → i < length all → HaveNumbers old (take i all) ns → (more : List Client) × (mid ≡ old ++ more)
    → number_of mid (get_or all i d) ≡ Some n → new ≡ ns ++ n ∷ [] → HaveNumbers mid (take (i + 1) all) new
numbered_on old mid all i d ns new n low have grown found pushed =
    let stay : HaveNumbers mid (take i all) ns = subst (λ cs. HaveNumbers cs (take i all) ns) (sym grown.1) (numbers_stay old grown.0 (take i all) ns have) in
    ap (map (number_of mid)) (take_more all i d low) ∙ (numbers_push mid (take i all) ns (get_or all i d) n stay found ∙ ap (map Some) (sym pushed))

new_push : (next : ℕ) (sums : List (List ℕ)) (more : List Client) (n : ℕ) (sum : List ℕ) (i : ℕ) → AreNew next sums more → n ≡ next + length more → i < length sums → get_or sums i [] ≡ sum
    → AreNew next sums (more ++ (n, sum) ∷ [])
new_push next sums [] n sum i news is low at = (omega (arith, is), (i, (low, at)), tt)
new_push next sums (c ∷ cs) n sum i news is low at = (news.0, news.1, new_push (next + 1) sums cs n sum i news.2 (omega (arith, is)) low at)

pub grown_more : (old new : List Client) (next after : ℕ) (sum : List ℕ) → IsNext old next sum new after → (more : List Client) × (new ≡ old ++ more)
grown_more old new next after sum (inl same) = ([], same.0 ∙ sym (append-nil old))
grown_more old new next after sum (inr one) = ((next, sum) ∷ [], one.0)

pub grows_on : (start old new : List Client) (first next after : ℕ) (sums : List (List ℕ)) (i : ℕ) (d : List ℕ) → i < length sums → Grows start first sums old next → IsNext old next (get_or sums i d) new after
    → Grows start first sums new after
grows_on start old new first next after sums i d low g (inl same) = record { more = g.more; is = same.0 ∙ g.is; are_new = g.are_new; counts = same.1 ∙ g.counts }
grows_on start old new first next after sums i d low g (inr one) =
    let c : Client = (next, get_or sums i d) in
    record {
      more = g.more ++ c ∷ [];
      is = one.0 ∙ (ap (λ cs. cs ++ c ∷ []) g.is ∙ append_assoc start g.more (c ∷ []));
      are_new = new_push first sums g.more next (get_or sums i d) i g.are_new g.counts low (get_or_default sums i [] d low);
      counts = one.1 ∙ (ap (λ n. n + 1) g.counts ∙ omega (arith, length-append g.more (c ∷ [])));
    }

pub next_on : (old new : List Client) (first next after i : ℕ) (sum : List ℕ) → next ≤ first + i → IsNext old next sum new after → after ≤ first + (i + 1)
next_on old new first next after i sum le (inl same) = omega (arith, le, same.1)
next_on old new first next after i sum le (inr one) = omega (arith, le, one.1)

-- new clients are put behind those that were read
pub entered : (old mid new : View) (before after puts : List Client) (next : ℕ) (sums : List (List ℕ)) (numbers : List ℕ) → mid.trees ≡ old.trees → old.trees client_tree ≡ map client_row before
    → Grows before (next_from 0 before) sums after next → puts ≡ drop (length before) after → AreKnown after next → HaveNumbers after sums numbers → PutsClients mid new puts → Enters old.trees new.trees sums numbers
entered old mid new before after puts next sums numbers same was grown rest known numbered put =
    let more : puts ≡ grown.more = rest ∙ (ap (drop (length before)) grown.is ∙ drop_at before grown.more (length before) refl) in
    let there : mid.trees client_tree ≡ map client_row before = ap (λ (t : Trees). t client_tree) same ∙ was in
    record {
      before = before;
      after = after;
      was = was;
      is =
          ap (λ (t : Trees). t client_tree) put.trees
          ∙ (ap (λ cs. clients_put mid.trees cs client_tree) more
          ∙ (put_behind mid.trees before grown.more there (subst AreRising grown.is known.rising) ∙ ap (map client_row) (sym grown.is)));
      next = next;
      grown = grown;
      distinct = known.distinct;
      rising = known.rising;
      numbered = numbered;
      others = λ tree other.
          ap (λ (t : Trees). t tree) put.trees ∙ (others_stay mid.trees puts tree (ne_eqb tree client_tree other) ∙ ap (λ (t : Trees). t tree) same);
    }

-- ---- rows that are none of clients

same_client : (a b : Client) → client_row a ≡ client_row b → a ≡ b
same_client a b same =
    let first : a.0 ≡ b.0 = cc in
    let second : a.1 ≡ b.1 = cc in
    λ i. (first i, second i)

-- clients whose rows begin with those of known ones and one more
split_rows : (known : List Client) (one : Client) (cs : List Client) (rest : List Row) → map client_row cs ≡ map client_row known ++ client_row one ∷ rest → (more : List Client) × (cs ≡ known ++ one ∷ more)
split_rows [] one [] rest same = absurd cc
split_rows [] one (c ∷ cs) rest same =
    let head : client_row c ≡ client_row one = cc in
    (cs, λ i. same_client c one head i ∷ cs)
split_rows (k ∷ ks) one [] rest same = absurd cc
split_rows (k ∷ ks) one (c ∷ cs) rest same =
    let head : client_row c ≡ client_row k = cc in
    let tail : map client_row cs ≡ map client_row ks ++ client_row one ∷ rest = cc in
    let more = split_rows ks one cs rest tail in
    (more.0, λ i. same_client c k head i ∷ more.1 i)

next_low : (cs : List Client) (start n : ℕ) → AllByRecursion (λ c. c.0 < n) cs → start ≤ n → next_from start cs ≤ n
next_low [] start n below le = le
next_low (c ∷ cs) start n below le = next_low cs (c.0 + 1) n below.1 (omega (arith, below.0))

unlike : (cs : List Client) (one : Client) (more : List Client) (q : List ℕ) → number_of (cs ++ one ∷ more) q ≡ None → is_sum one.1 q ≡ false
unlike [] one more q none = not_first one more q none
unlike (c ∷ cs) one more q none = unlike cs one more q (later c (cs ++ one ∷ more) q none)

new_among : (cs : List Client) (one : Client) (more : List Client) → AreDistinct (cs ++ one ∷ more) → number_of cs one.1 ≡ None
new_among [] one more distinct = refl
new_among (c ∷ cs) one more distinct =
    cond-false (is_sum c.1 one.1) (Some c.0) (number_of cs one.1) (not_turned one.1 c.1 (unlike cs one more c.1 distinct.0)) ∙ new_among cs one more distinct.1

-- where the rows are those of clients, the next one fits behind those that are known
pub fits_behind : (rows : List Row) (known : List Client) (next : ℕ) (one : Client) (i : ℕ) (d : Row) → rows ≡ map client_row known ++ drop i rows → i < length rows → get_or rows i d ≡ client_row one → AreKnown known next
    → AreClients rows → (next ≤ one.0) × (number_of known one.1 ≡ None)
fits_behind rows known next one i d front low at is are =
    let all : map client_row are.clients ≡ map client_row known ++ client_row one ∷ drop (suc i) rows =
    sym are.are ∙ (front ∙ ap (λ (l : List Row). map client_row known ++ l) (drop-cons rows i d low ∙ ap (λ (r : Row). r ∷ drop (suc i) rows) at)) in
    let split = split_rows known one are.clients (drop (suc i) rows) all in (
      subst (λ n. n ≤ one.0) (sym is.is_next) (next_low known 0 one.0 (before_one known one split.0 (subst AreRising split.1 are.rising)) (omega arith)),
      new_among known one split.0 (subst AreDistinct split.1 are.distinct),
    )

-- the rows tell the clients
same_clients : (xs ys : List Client) → map client_row xs ≡ map client_row ys → xs ≡ ys
same_clients [] [] same = refl
same_clients [] (y ∷ ys) same = absurd cc
same_clients (x ∷ xs) [] same = absurd cc
same_clients (x ∷ xs) (y ∷ ys) same =
    let head : client_row x ≡ client_row y = cc in
    let tail : map client_row xs ≡ map client_row ys = cc in
    λ i. same_client x y head i ∷ same_clients xs ys tail i

-- room for new clients behind those that were read
pub room_behind : (rows : List Row) (known : List Client) (next count : ℕ) → rows ≡ map client_row known → next ≡ next_from 0 known → HaveRoom rows count → next + count ≤ 2 ^ 32
room_behind rows known next count are is have =
    let same : have.clients.clients ≡ known = same_clients have.clients.clients known (sym have.clients.are ∙ are) in
    let e : next ≡ next_from 0 have.clients.clients = is ∙ ap (next_from 0) (sym same) in
    omega (arith, e, have.room)

-- so accounts and open grants are what they were
pub agree_entered : (old new : Trees) (sums : List (List ℕ)) (numbers : List ℕ) → Enters old new sums numbers → AgreeOnRows new old
agree_entered old new sums numbers e = record { accounts = e.others account_tree (λ same. omega (arith, same)); grants = e.others grant_tree (λ same. omega (arith, same)) }

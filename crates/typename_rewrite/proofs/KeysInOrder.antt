-- Keys in order: members that are put one behind another.
use Rattle.std.proofs.Common.{◌≡◌, ◌∙◌, ℕ, List, Ordering, Less, Equal, Greater, nat_cmp, refl, ap}
use Rattle.std.proofs.lemmas.Cmp.{nat_list_cmp_total}
use Rattle.std.specs.Cmp.Lexicographic.{slice_cmp}
use Rattle.std.specs.Ordering.{match_ordering, ordering_reverse}
use Rattle.serde_json.specs.Data.{Data, Members, no_members, member, put}
use Rattle.typename_rewrite.specs.ReadJson.{ComesBefore, IsAsRead, MembersAreAsRead}

abbrev pub IsBefore : List ℕ → List ℕ → Type 0
IsBefore a b = slice_cmp nat_cmp a b ≡ Less

-- ---- a member is put into members in order

behind : (a b : List ℕ) → slice_cmp nat_cmp a b ≡ Greater → IsBefore b a
behind a b greater = nat_list_cmp_total.antisymm b a ∙ ap ordering_reverse greater

ahead : (a b : List ℕ) → IsBefore a b → slice_cmp nat_cmp b a ≡ Greater
ahead a b less = nat_list_cmp_total.antisymm b a ∙ ap ordering_reverse less

before_later : (a b : List ℕ) (members : Members) → IsBefore a b → ComesBefore b members → ComesBefore a members
before_later a b no_members first before = tt
before_later a b (member c d others) first before = (nat_list_cmp_total.trans a b c first before.0, before_later a b others first before.1)

before_put_at : (o : Ordering) (first key other : List ℕ) (d e : Data) (others : Members) → IsBefore first key → IsBefore first other → ComesBefore first others → ComesBefore first (put key d others)
    → ComesBefore first (match_ordering o (member key d (member other e others)) (member other d others) (member other e (put key d others)))
before_put_at Less first key other d e others at next before later = (at, (next, before))
before_put_at Equal first key other d e others at next before later = (next, before)
before_put_at Greater first key other d e others at next before later = (next, later)

before_put : (first key : List ℕ) (d : Data) (members : Members) → IsBefore first key → ComesBefore first members → ComesBefore first (put key d members)
before_put first key d no_members at before = (at, tt)
before_put first key d (member other e others) at before =
    before_put_at (slice_cmp nat_cmp key other) first key other d e others at before.0 before.1 (before_put first key d others at before.1)

put_at : (o : Ordering) (key other : List ℕ) (d e : Data) (others : Members) → slice_cmp nat_cmp key other ≡ o → IsAsRead d → MembersAreAsRead (member other e others) → MembersAreAsRead (put key d others)
    → MembersAreAsRead (match_ordering o (member key d (member other e others)) (member other d others) (member other e (put key d others)))
put_at Less key other d e others is one are later = ((is, before_later key other others is are.0), one, are)
put_at Equal key other d e others is one are later = (are.0, one, are.2)
put_at Greater key other d e others is one are later = (before_put other key d others (behind key other is) are.0, are.1, later)

pub put_as_read : (key : List ℕ) (d : Data) (members : Members) → IsAsRead d → MembersAreAsRead members → MembersAreAsRead (put key d members)
put_as_read key d no_members one are = (tt, one, tt)
put_as_read key d (member other e others) one are = put_at (slice_cmp nat_cmp key other) key other d e others refl one are (put_as_read key d others one are.2)

-- ---- members behind members

abbrev pub joined : Members → Members → Members
joined no_members last = last
joined (member key d others) last = member key d (joined others last)

-- all keys of the first members come before those of the others
abbrev pub AllBefore : Members → Members → Type 0
AllBefore no_members last = Unit {0}
AllBefore (member key d others) last = ComesBefore key last × AllBefore others last

pub joined_none : (last : Members) → joined last no_members ≡ last
joined_none no_members = refl
joined_none (member key d others) = ap (member key d) (joined_none others)

pub joined_again : (found : Members) (key : List ℕ) (d : Data) (last : Members) → joined (joined found (member key d no_members)) last ≡ joined found (member key d last)
joined_again no_members key d last = refl
joined_again (member other e others) key d last = ap (member other e) (joined_again others key d last)

pub all_before_more : (found : Members) (key : List ℕ) (d : Data) (last : Members) → AllBefore found (member key d last) → ComesBefore key last → AllBefore (joined found (member key d no_members)) last
all_before_more no_members key d last before first = (first, tt)
all_before_more (member other e others) key d last before first = (before.0.1, all_before_more others key d last before.1 first)

-- what comes behind all members is put behind them
pub put_behind : (found : Members) (key : List ℕ) (d : Data) (last : Members) → AllBefore found (member key d last) → put key d found ≡ joined found (member key d no_members)
put_behind no_members key d last before = refl
put_behind (member other e others) key d last before = rw (ahead other key before.0.0) (ap (member other e) (put_behind others key d last before.1))

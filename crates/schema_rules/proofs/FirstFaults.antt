-- The first fault that a test finds is that of a thing before which it finds none.
use Rattle.std.proofs.Common.{◌≡◌, Bool, true, false, List, [], ◌∷◌, ◌++◌, Option, None, Some, refl, ap, ◌∙◌}
use Rattle.schema_rules.specs.First.{or_else, fault_where, first_of, AreGood, IsFirst}

pub not_told : {F : Type 0} (wrong : Bool) (fault : F) → fault_where wrong fault ≡ None → wrong ≡ false
not_told true fault none = absurd (cc)
not_told false fault none = refl

-- of two tests neither finds anything
pub neither : {F : Type 0} (here behind : Option F) → or_else here behind ≡ None → (here ≡ None) × (behind ≡ None)
neither None behind none = (refl, none)
neither (Some fault) behind none = absurd (cc)

-- from what the test finds at one thing, and from what holds of those behind it
joined : {A F : Type 0} (test : A → Option F) (x : A) (xs : List A) (fault : F) (found : Option F) → test x ≡ found → (first_of test xs ≡ Some fault → IsFirst test xs fault)
    → or_else found (first_of test xs) ≡ Some fault → IsFirst test (x ∷ xs) fault
unfolding AreGood
joined test x xs fault None is behind told =
    let later = behind told in
    record { before = x ∷ later.before; here = later.here; after = later.after; whole = ap (λ rest. x ∷ rest) later.whole; good = (is, later.good); bad = later.bad }
joined test x xs fault (Some here) is behind told = record { before = []; here = x; after = xs; whole = refl; good = tt; bad = is ∙ told }

pub told_is_first : {A F : Type 0} (test : A → Option F) (xs : List A) (fault : F) → first_of test xs ≡ Some fault → IsFirst test xs fault
told_is_first test [] fault told = absurd (cc)
told_is_first test (x ∷ xs) fault told = joined test x xs fault (test x) refl (told_is_first test xs fault) told

behind_good : {A F : Type 0} (test : A → Option F) (before : List A) (here : A) (after : List A) (fault : F) → AreGood test before → test here ≡ Some fault → first_of test (before ++ (here ∷ after)) ≡ Some fault
unfolding AreGood
behind_good test [] here after fault good bad = ap (λ found. or_else found (first_of test after)) bad
behind_good test (x ∷ before) here after fault good bad = ap (λ found. or_else found (first_of test (before ++ (here ∷ after)))) good.0 ∙ behind_good test before here after fault good.1 bad

pub first_is_told : {A F : Type 0} (test : A → Option F) (xs : List A) (fault : F) → IsFirst test xs fault → first_of test xs ≡ Some fault
first_is_told test xs fault first = ap (first_of test) first.whole ∙ behind_good test first.before first.here first.after fault first.good first.bad

pub good_have_none : {A F : Type 0} (test : A → Option F) (xs : List A) → AreGood test xs → first_of test xs ≡ None
unfolding AreGood
good_have_none test [] good = refl
good_have_none test (x ∷ xs) good = ap (λ found. or_else found (first_of test xs)) good.0 ∙ good_have_none test xs good.1

unfound : {A F : Type 0} (test : A → Option F) (x : A) (xs : List A) (found : Option F) → test x ≡ found → (first_of test xs ≡ None → AreGood test xs) → or_else found (first_of test xs) ≡ None → AreGood test (x ∷ xs)
unfolding AreGood
unfound test x xs None is behind none = (is, behind none)
unfound test x xs (Some here) is behind none = absurd (cc)

pub none_are_good : {A F : Type 0} (test : A → Option F) (xs : List A) → first_of test xs ≡ None → AreGood test xs
unfolding AreGood
none_are_good test [] none = tt
none_are_good test (x ∷ xs) none = unfound test x xs (test x) refl (none_are_good test xs) none

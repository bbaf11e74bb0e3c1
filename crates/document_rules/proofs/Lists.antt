-- Lists of things that are seen as others, and first faults of lists that stand behind one another.
use Rattle.std.proofs.Common.{◌≡◌, List, [], ◌∷◌, ◌++◌, map, Option, None, Some, refl, sym, ap, ◌∙◌}
use Rattle.std.proofs.lemmas.Option.{slice_get-map}
use Rattle.schema_rules.specs.First.{or_else, first_of}

pub ruleset gotten = (slice_get-map)

pub map_twice : {A B C : Type 0} (f : B → C) (g : A → B) (xs : List A) → map f (map g xs) ≡ map (λ x. f (g x)) xs
map_twice f g [] = refl
map_twice f g (x ∷ xs) = ap (λ ys. f (g x) ∷ ys) (map_twice f g xs)

pub or_else_none : {F : Type 0} (found : Option F) → or_else found None ≡ found
or_else_none None = refl
or_else_none (Some fault) = refl

or_else_thrice : {F : Type 0} (a b c : Option F) → or_else (or_else a b) c ≡ or_else a (or_else b c)
or_else_thrice None b c = refl
or_else_thrice (Some a) b c = refl

pub first_of_append : {A F : Type 0} (test : A → Option F) (xs ys : List A) → first_of test (xs ++ ys) ≡ or_else (first_of test xs) (first_of test ys)
first_of_append test [] ys = refl
first_of_append test (x ∷ xs) ys = ap (or_else (test x)) (first_of_append test xs ys) ∙ sym (or_else_thrice (test x) (first_of test xs) (first_of test ys))

-- what is found here is what the whole has first
pub found_here : {F : Type 0} (left here rest whole : Option F) (fault : F) → left ≡ or_else here rest → left ≡ whole → here ≡ Some fault → Some fault ≡ whole
found_here left here rest whole fault split goes is = sym (ap (λ found. or_else found rest) is) ∙ (sym split ∙ goes)

-- nothing is found here, and the rest answers as the whole
pub none_here : {F : Type 0} (left here rest whole : Option F) → left ≡ or_else here rest → left ≡ whole → here ≡ None → rest ≡ whole
none_here left here rest whole split goes is = sym (ap (λ found. or_else found rest) is) ∙ (sym split ∙ goes)

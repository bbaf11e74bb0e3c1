-- Tests of texts, and the length that values say.
use Rattle.std.proofs.Common.{◌≡◌, ◌↔◌, ◌∷◌, ℕ, List, refl, sym, ap, ◌∙◌, subst, cond, true, false, Bool, Ok, Err}
use Rattle.std.specs.Prelude.{Option, Some, Result, IsTrue, ◌&&◌, bytes_eq}
use Rattle.std.specs.List.{list_all}
use Rattle.std.specs.Str.Parse.{digits_value}
use Rattle.std.specs.Cmp.Lexicographic.{bytes_decides}
use Rattle.std.proofs.lemmas.Bool.{and_from, and_right, false_from_ne_true}
use Rattle.http_fields.specs.declared.lengths.BadLength.{BadLength}
use Rattle.http_fields.specs.Fields.{is_length, is_length_of, length_among}

-- a test that says whether two texts are equal
pub decided : (t : Bool) (x y : List ℕ) → IsTrue t ↔ (x ≡ y) → t ≡ bytes_eq x y
decided true x y is = sym ((bytes_decides x y).1 (is.0 refl))
decided false x y is = sym (false_from_ne_true (bytes_eq x y) (λ e. cc (is.1 ((bytes_decides x y).0 e))))

all_alike : (values : List (List ℕ)) (first : List ℕ) (more : List (List ℕ)) → values ≡ first ∷ more → is_length first ≡ true
    → list_all (is_length_of (digits_value 10 first)) more ≡ true → ◌≡◌ {A = Result (Option ℕ) BadLength} (Ok (Some (digits_value 10 first))) (length_among values)
all_alike values first more is form all =
    sym (ap length_among is ∙ ap (λ t. cond t (Ok (Some (digits_value 10 first))) (Err record {})) (and_from (is_length first) _ form all))

-- the length that all values say
pub length_said : (values : List (List ℕ)) (first : List ℕ) (more : List (List ℕ)) (number : ℕ) → values ≡ first ∷ more → is_length first ≡ true
    → number ≡ digits_value 10 first → list_all (is_length_of number) more ≡ true → ◌≡◌ {A = Result (Option ℕ) BadLength} (Ok (Some number)) (length_among values)
length_said values first more number is form spelled all =
    subst (λ k. ◌≡◌ {A = Result (Option ℕ) BadLength} (Ok (Some k)) (length_among values)) (sym spelled)
    (all_alike values first more is form (subst (λ k. list_all (is_length_of k) more ≡ true) spelled all))

-- no length, where one of the values says another
pub no_length : (values : List (List ℕ)) (first : List ℕ) (more : List (List ℕ)) (number : ℕ) → values ≡ first ∷ more
    → number ≡ digits_value 10 first → list_all (is_length_of number) more ≡ false → ◌≡◌ {A = Result (Option ℕ) BadLength} (Err record {}) (length_among values)
no_length values first more number is spelled some =
    sym (ap length_among is ∙ ap (λ t. cond t (Ok (Some (digits_value 10 first))) (Err record {}))
    (and_right (is_length first) _ (subst (λ k. list_all (is_length_of k) more ≡ false) spelled some)))

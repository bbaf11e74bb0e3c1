-- Bytes that were written one after the other, and fronts of them.
use Rattle.std.proofs.Common.{◌≡◌, ◌+◌, ◌<◌, ◌++◌, ℕ, suc, List, [], ◌∷◌, length, take, sym, ap, ◌∙◌, subst, arith}
use Rattle.std.specs.Prelude.{Option}
use Rattle.std.proofs.lemmas.List.{take-append-le, length-append}
use Rattle.std.specs.Io.KnownBytes.{Appends}
use Rattle.std.proofs.KnownBytes.{Appends-trans}
use Rattle.outside.specs.Contents.{AppendsFront}

within : (count : ℕ) (xs ys : List ℕ) → count < length xs → count < length (xs ++ ys)
within count xs ys short = omega (arith, short, length-append xs ys)

-- a front of some bytes is a front of more bytes
pub front_more : (a b : Option (List ℕ)) (xs ys : List ℕ) → AppendsFront a b xs → AppendsFront a b (xs ++ ys)
front_more a b xs ys x =
    let short : x.0 < length xs = x.1 in
    (x.0, within x.0 xs ys short, subst (Appends a b) (sym (take-append-le x.0 xs ys (omega (arith, short)))) x.2)

take_past : (count : ℕ) (xs ys : List ℕ) → take (length xs + count) (xs ++ ys) ≡ xs ++ take count ys
take_past count [] ys = ap (λ n. take n ys) (none_before count)
  where
    none_before : (n : ℕ) → 0 + n ≡ n
    none_before n = omega arith
take_past count (x ∷ xs) ys = ap (λ n. take n (x ∷ xs ++ ys)) (one_before (length xs) count) ∙ ap (λ l. x ∷ l) (take_past count xs ys)
  where
    one_before : (n m : ℕ) → suc n + m ≡ suc (n + m)
    one_before n m = omega arith

-- bytes that were written whole, and then a front of more
pub front_then : (a b c : Option (List ℕ)) (xs ys : List ℕ) → Appends a b xs → AppendsFront b c ys → AppendsFront a c (xs ++ ys)
front_then a b c xs ys x y =
    let short : y.0 < length ys = y.1 in (
      length xs + y.0,
      omega (arith, short, length-append xs ys),
      subst (Appends a c) (sym (take_past y.0 xs ys)) (Appends-trans a b c xs (take y.0 ys) x y.2),
    )

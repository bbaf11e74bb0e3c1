-- Grammars in which the symbols of things tell how deep they are nested; so those in which counting brackets tells it.
use Rattle.std.proofs.Common.{ℕ, ◌≡◌, [], ◌∷◌, ◌++◌, refl, sym, ap, ◌∙◌, append-nil}
use Rattle.gql_base.specs.ways.Symbols.{Symbols, kind_of}
use Rattle.gql_base.specs.ways.Grammar.{Nested, plain}
use Rattle.gql_base.proofs.WayLaws.AlikeSymbols.{first_same}
use Rattle.gql_base.proofs.WayLaws.CountedLevels.{nesting, levels_after, nested, Counted}

-- Where the symbols of one beginning go on as those of another, its nestings do.
pub record Determined {A : Type 0} (S : A → Nested → Type 0) : Type 0 where
  pub same : (a b : A) (f more g others : Nested) (m : Symbols) → S a (f ++ more) → S b (g ++ others) → plain f ≡ plain g ++ m → (k : Nested) × (f ≡ g ++ k)

-- counting

-- what is counted of more symbols is counted of the first ones
front_counted : (d : ℕ) (f more : Nested) → nested d (plain (f ++ more)) ≡ f ++ more → nested d (plain f) ≡ f
unfolding nested
front_counted d [] more e = refl
front_counted d (w ∷ f) more e =
    let h = first_same (w.0, nesting d (kind_of w.0)) w (nested (levels_after d (kind_of w.0)) (plain (f ++ more))) (f ++ more) e in
    let t = front_counted (levels_after d (kind_of w.0)) f more h.1 in
    cc (h.0, t)

counted_more : (d : ℕ) (xs ys : Symbols) → (m : Nested) × (nested d (xs ++ ys) ≡ nested d xs ++ m)
unfolding nested
counted_more d [] ys = (nested d ys, refl)
counted_more d (x ∷ xs) ys = let r = counted_more (levels_after d (kind_of x)) xs ys in (r.0, ap (λ (l : Nested). (x, nesting d (kind_of x)) ∷ l) r.1)

-- the beginnings of things have the nestings that are counted
begins_counted : {A : Type 0} {S : A → Nested → Type 0} {d : ℕ} → Counted S d → (a : A) (f more : Nested) → S a (f ++ more) → nested d (plain f) ≡ f
unfolding nested
begins_counted {d = d} s a f more is = front_counted d f more (ap (nested d) (sym (append-nil (plain (f ++ more)))) ∙ (s.counts a (f ++ more) is [] ∙ append-nil (f ++ more)))

pub by_counting : {A : Type 0} {S : A → Nested → Type 0} {d : ℕ} → Counted S d → Determined S
by_counting {d = d} s = record {
  same = λ a b f more g others m is it e.
      let k = counted_more d (plain g) m in
      (k.0, sym (begins_counted s a f more is) ∙ (ap (nested d) e ∙ (k.1 ∙ ap (λ (l : Nested). l ++ k.0) (begins_counted s b g others it))));
}

-- The search for the alias: underscores that were tried, and why it ends.
use Rattle.std.proofs.Common.{ℕ, zero, suc, ◌-◌, ◌≡◌, ◌⊎◌, ◌<◌, ◌≤◌, ◌||◌, inl, inr, ⊎_elim, true, false, List, [], ◌∷◌, ◌++◌, length, map, refl, sym, ap, ◌∙◌, arith, append_assoc, append-nil, length-append}
use Rattle.std.specs.Prelude.{max, replicate, codes}
use Rattle.std.specs.Str.{bytes_eq}
use Rattle.std.proofs.lemmas.Bool.{cases_Bool, cases_lt}
use Rattle.std.proofs.lemmas.Slice.Eq.{bytes_eq-Decides}
use Rattle.gql_base.specs.names.Names.{has_name}
use Rattle.typename_rewrite.specs.AddedNames.{is_taken, alias_with, IsAlias}

-- all that are shorter are taken
pub record IsTried (names : List (List ℕ)) (alias : List ℕ) : Type 0 where
  pub underscores : ℕ
  pub is : alias ≡ alias_with underscores
  pub fewest : (fewer : ℕ) → fewer < underscores → is_taken names (alias_with fewer) ≡ true

abbrev pub longest : List (List ℕ) → ℕ
longest [] = 0
longest (name ∷ names) = max (length name) (longest names)

pub within_longest : (names : List (List ℕ)) (name : List ℕ) → is_taken names name ≡ true → length name ≤ longest names
within_longest [] name e = cc
within_longest (n ∷ names) name e = ⊎_elim
    (λ (is : bytes_eq n name ≡ true). omega (arith, ap length ((bytes_eq-Decides n name).0 is)))
    (λ (isnt : bytes_eq n name ≡ false). let rest = within_longest names name (sym (ap (λ b. b || is_taken names name) isnt) ∙ e) in omega arith)
    (cases_Bool (bytes_eq n name))

pub taken_among : {X : Type 0} (text : X → List ℕ) (xs : List X) (name : List ℕ) → has_name text xs name ≡ is_taken (map text xs) name
taken_among text [] name = refl
taken_among text (x ∷ xs) name = ap (λ b. bytes_eq (text x) name || b) (taken_among text xs name)

pub none_tried : (names : List (List ℕ)) → IsTried names (codes "gateway_typename")
none_tried names = record { underscores = 0; is = sym (append-nil (codes "gateway_typename")); fewest = λ fewer h. absurd (omega (arith, h)) }

pub found_free : (names : List (List ℕ)) (alias : List ℕ) → IsTried names alias → is_taken names alias ≡ false → IsAlias names alias
found_free names alias t free = record { underscores = t.underscores; is = t.is; free = free; fewest = t.fewest }

one_longer : (n : ℕ) → ◌++◌ {A = ℕ} (replicate n 95) (95 ∷ []) ≡ replicate (suc n) 95
one_longer zero = refl
one_longer (suc n) = ap (λ l. 95 ∷ l) (one_longer n)

below_or_at : (m n : ℕ) → m < suc n → (m < n) ⊎ (m ≡ n)
below_or_at m n h = ⊎_elim (λ (less : m < n). inl less) (λ (most : n ≤ m). inr (omega (arith, h, most))) (cases_lt m n)

fewer_taken : (names : List (List ℕ)) (alias : List ℕ) (t : IsTried names alias) → is_taken names alias ≡ true → (fewer : ℕ) → fewer < suc t.underscores → is_taken names (alias_with fewer) ≡ true
fewer_taken names alias t taken fewer h = ⊎_elim (λ (less : fewer < t.underscores). t.fewest fewer less) (λ (same : fewer ≡ t.underscores). ap (λ n. is_taken names (alias_with n)) same ∙ (ap (is_taken names) (sym t.is) ∙ taken)) (below_or_at fewer t.underscores h)

pub one_more_tried : (names : List (List ℕ)) (alias : List ℕ) → IsTried names alias → is_taken names alias ≡ true → IsTried names (alias ++ (95 ∷ []))
one_more_tried names alias t taken = record {
  underscores = suc t.underscores;
  is = ap (λ l. l ++ (95 ∷ [])) t.is ∙ (append_assoc (codes "gateway_typename") (replicate t.underscores 95) (95 ∷ []) ∙ ap (λ l. codes "gateway_typename" ++ l) (one_longer t.underscores));
  fewest = λ fewer h. fewer_taken names alias t taken fewer h;
}

-- as one that is taken is no longer than the longest, a longer one is nearer to the end
pub longer_is_nearer : (names : List (List ℕ)) (alias more : List ℕ) → is_taken names alias ≡ true → more ≡ alias ++ (95 ∷ []) → suc (longest names) - length more < suc (longest names) - length alias
longer_is_nearer names alias more taken e = omega (arith, within_longest names alias taken, ap length e ∙ length-append alias (95 ∷ []))

-- What is read of files, and what is told of them.
use Rattle.std.proofs.Common.{◌≡◌, ◌≤◌, ◌==◌, ℕ, Bool, true, false, not, List, [], ◌∷◌, length, take, Option, None, Some, Result, Ok, refl, ap, subst, ◌∙◌, inl, inr, arith}
use Rattle.std.proofs.lemmas.Bool.Decides.{nat_tests}
use Rattle.std.specs.Prelude.{IfSome}
use Rattle.store_trees.specs.declared.fault.OpenFault.{OpenFault}
use Rattle.outside.specs.Faults.{Rose}
use Rattle.store_trees.specs.Files.{Begins, HasContent, HasNothing, MayBeAccounts, PassesLook}

abbrev answer : Bool → Result Bool OpenFault
answer log = Ok log

pub some_content : (told : Option (List ℕ)) (read : List ℕ) (len : ℕ) (empty : Bool) → IfSome told (λ whole. read ≡ take 1 whole) → len ≡ length read → empty ≡ (len == 0)
    → answer (not empty) ≡ answer true → HasContent told
some_content None read len empty is long same said = tt
some_content (Some whole) read len true is long same said = absurd cc
some_content (Some whole) [] len false is long same said = absurd (let e : false ≡ true = same ∙ ap (λ (n : ℕ). n == 0) long in cc)
some_content (Some whole) (x ∷ xs) len false is long same said = λ none. (let e : x ∷ xs ≡ [] = is ∙ ap (take 1) none in cc)

pub no_content : (told : Option (List ℕ)) (read : List ℕ) (len : ℕ) (empty : Bool) (before after : ℕ) → IfSome told (λ whole. read ≡ take 1 whole) → len ≡ length read → empty ≡ (len == 0)
    → answer (not empty) ≡ answer false → HasNothing told before after
no_content None read len empty before after is long same said = inl tt
no_content (Some whole) read len false before after is long same said = absurd cc
no_content (Some whole) (x ∷ xs) len true before after is long same said = absurd (grind (arith, nat_tests, same, long))
no_content (Some []) [] len true before after is long same said = inl refl
no_content (Some (w ∷ ws)) [] len true before after is long same said = absurd cc

pub told_head : (told : Option (List ℕ)) (read : List ℕ) (P : List ℕ → Type 0) → IfSome told (λ whole. read ≡ take 100 whole) → P read → Begins told P
told_head None read P is p = tt
told_head (Some whole) read P is p = subst P is p

rose_on : (a b c : ℕ) → Rose a b → b ≤ c → Rose a c
rose_on a b c (inl up) le = inl (omega (arith, up, le))
rose_on a b c (inr last) le = inr (omega (arith, last, le))

pub nothing_on : (told : Option (List ℕ)) (a b c : ℕ) → b ≤ c → HasNothing told a b → HasNothing told a c
nothing_on told a b c le (inl none) = inl none
nothing_on told a b c le (inr rose) = inr (rose_on a b c rose le)

-- behind a call that changed no content
pub passes_on : (first next : List ℕ → Option (List ℕ)) (path : List ℕ) (a b c : ℕ) → next ≡ first → a ≤ b → PassesLook (next path) b c → PassesLook (first path) a c
passes_on first next path a b c same le (inl head) = inl (subst (λ (f : List ℕ → Option (List ℕ)). Begins (f path) MayBeAccounts) same head)
passes_on first next path a b c same le (inr (inl up)) = inr (inl (omega (arith, up, le)))
passes_on first next path a b c same le (inr (inr last)) = inr (inr last)

pub begins_on : (first next : List ℕ → Option (List ℕ)) (path : List ℕ) (P : List ℕ → Type 0) → next ≡ first → Begins (next path) P → Begins (first path) P
begins_on first next path P same head = subst (λ (f : List ℕ → Option (List ℕ)). Begins (f path) P) same head

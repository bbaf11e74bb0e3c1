-- Loops over things that are read one after the other: the things read so far and those still to be read are the whole.
use Rattle.std.proofs.Common.{◌≡◌, true, false, List, [], ◌∷◌, ◌++◌, map, Ok, Err, refl, sym, ap, ◌∙◌, subst, append_assoc, append-nil}
use Rattle.std.proofs.lemmas.List.{map-append, map-id}
use Rattle.gql_base.specs.declared.ways.source.Halt.{Halt}
use Rattle.gql_base.specs.declared.ways.source.Halt.TheVariants.{Unexpected, TooDeep, Memory}
use Rattle.gql_base.specs.declared.ways.source.Source.{Source}
use Rattle.gql_base.specs.ways.Symbols.{Symbols}
use Rattle.gql_base.specs.ways.Reading.{Reading, Reader, Test, next, then_read, pair, image, listed, repeated, one_or_more}
use Rattle.gql_base.specs.ways.Sources.{Halts}
use Rattle.gql_base.proofs.WayLaws.ReadingLaws.{pair_ok}
use Rattle.gql_base.proofs.WayLaws.RepeatingLaws.{Repeats, no_other, another}

-- what is read, after what was read before
abbrev pub joined : {A : Type 0} → List A → Reading (List A) → Reading (List A)
joined front reading = then_read reading (λ x. Ok (front ++ x.0, x.1))

pub loop_ends : {A : Type 0} {test : Test} {r : Reader A} → Repeats test r → (all : List A) (ws : Symbols) (whole : Reading (List A)) → joined all (repeated test r ws) ≡ whole → test (next ws) ≡ false → whole ≡ Ok (all, ws)
loop_ends {test = test} {r = r} p all ws whole h t = sym h ∙ (ap (joined all) (no_other test r p ws t) ∙ ap (λ l. Ok (l, ws)) (append-nil all))

abbrev Going : {A : Type 0} → List A → Reading A → Reader (List A) → Reading (List A)
Going all o m = joined all (then_read (then_read o (λ x. then_read (m x.1) (λ y. Ok ((x.0, y.0), y.1)))) (λ p. Ok (listed p.0, p.1)))

thing_halts : {A : Type 0} (s : Source) (halt : Halt) (all : List A) (o : Reading A) (m : Reader (List A)) → Halts s halt o → Halts s halt (Going all o m)
thing_halts s (Unexpected at) all o m e = ap (λ o. Going all o m) e
thing_halts s (TooDeep at) all o m e = ap (λ o. Going all o m) e
thing_halts s Memory all o m e = tt

pub loop_halts : {A : Type 0} {test : Test} {r : Reader A} → Repeats test r → (s : Source) (halt : Halt) (all : List A) (ws : Symbols) (whole : Reading (List A)) → joined all (repeated test r ws) ≡ whole → test (next ws) ≡ true → Halts s halt (r ws) → Halts s halt whole
loop_halts {test = test} {r = r} p s halt all ws whole h t e = subst (Halts s halt) (ap (joined all) (sym (another test r p ws t)) ∙ h) (thing_halts s halt all (r ws) (repeated test r) e)

one_more : {A : Type 0} (all : List A) (a : A) (o : Reading (List A)) → joined all (then_read (then_read o (λ y. Ok ((a, y.0), y.1))) (λ p. Ok (listed p.0, p.1))) ≡ joined (all ++ (a ∷ [])) o
one_more all a (Ok x) = ap (λ l. Ok (l, x.1)) (sym (append_assoc all (a ∷ []) x.0))
one_more all a (Err e) = refl

step : {A : Type 0} (test : Test) (r : Reader A) → Repeats test r → (all : List A) (a : A) (ws mid : Symbols) (whole : Reading (List A)) → joined all (repeated test r ws) ≡ whole → test (next ws) ≡ true → r ws ≡ Ok (a, mid) → joined (all ++ (a ∷ [])) (repeated test r mid) ≡ whole
step test r p all a ws mid whole h t e =
    sym (one_more all a (repeated test r mid)) ∙ (ap (λ o. Going all o (repeated test r)) (sym e) ∙ (ap (joined all) (sym (another test r p ws t)) ∙ h))

-- one more thing of the program, seen by a view, is pushed
pub loop_goes_on : {A B : Type 0} {test : Test} {r : Reader A} (view : B → A) → Repeats test r → (all pushed : List B) (b : B) (ws mid : Symbols) (whole : Reading (List A))
    → joined (map view all) (repeated test r ws) ≡ whole → test (next ws) ≡ true → r ws ≡ Ok (view b, mid) → pushed ≡ all ++ (b ∷ []) → joined (map view pushed) (repeated test r mid) ≡ whole
loop_goes_on {test = test} {r = r} view p all pushed b ws mid whole h t e is =
    ap (λ l. joined l (repeated test r mid)) (ap (map view) is ∙ map-append view all (b ∷ [])) ∙ step test r p (map view all) (view b) ws mid whole h t e

-- the same where the things are seen as they are
pub loop_goes_on_plain : {A : Type 0} {test : Test} {r : Reader A} → Repeats test r → (all pushed : List A) (a : A) (ws mid : Symbols) (whole : Reading (List A))
    → joined all (repeated test r ws) ≡ whole → test (next ws) ≡ true → r ws ≡ Ok (a, mid) → pushed ≡ all ++ (a ∷ []) → joined pushed (repeated test r mid) ≡ whole
loop_goes_on_plain {test = test} {r = r} p all pushed a ws mid whole h t e is = ap (λ l. joined l (repeated test r mid)) is ∙ step test r p all a ws mid whole h t e

-- the first of one or more
pub loop_begins : {A B : Type 0} (view : B → A) (test : Test) (r : Reader A) (all : List B) (b : B) (ws mid : Symbols) → r ws ≡ Ok (view b, mid) → all ≡ b ∷ [] → joined (map view all) (repeated test r mid) ≡ one_or_more test r ws
loop_begins {A = A} view test r all b ws mid e is =
    ap (λ l. joined (map view l) (repeated test r mid)) is ∙ (first_thing (view b) (repeated test r mid) ∙ ap (λ o. then_read (then_read o (λ x. then_read (repeated test r x.1) (λ y. Ok ((x.0, y.0), y.1)))) (λ p. Ok (listed p.0, p.1))) (sym e))
  where
    first_thing : (a : A) (o : Reading (List A)) → joined (a ∷ []) o ≡ then_read (then_read o (λ y. Ok ((a, y.0), y.1))) (λ p. Ok (listed p.0, p.1))
    first_thing a (Ok x) = refl
    first_thing a (Err e) = refl

pub loop_begins_plain : {A : Type 0} (test : Test) (r : Reader A) (all : List A) (a : A) (ws mid : Symbols) → r ws ≡ Ok (a, mid) → all ≡ a ∷ [] → joined all (repeated test r mid) ≡ one_or_more test r ws
loop_begins_plain test r all a ws mid e is =
    ap (λ l. joined l (repeated test r mid)) (is ∙ sym (map-id (a ∷ []))) ∙ loop_begins (λ x. x) test r (a ∷ []) a ws mid e refl

-- a thing and then another
pub two_ok : {A B C : Type 0} (h : A × B → C) (r : Reader A) (q : Reader B) (ws mid rest : Symbols) (a : A) (b : B) → r ws ≡ Ok (a, mid) → q mid ≡ Ok (b, rest) → image h (pair r q) ws ≡ Ok (h (a, b), rest)
two_ok h r q ws mid rest a b e f = ap (λ o. then_read o (λ x. Ok (h x.0, x.1))) (pair_ok r q ws mid rest a b e f)

pub first_halts : {A B C : Type 0} (h : A × B → C) (r : Reader A) (q : Reader B) (ws : Symbols) (s : Source) (halt : Halt) → Halts s halt (r ws) → Halts s halt (image h (pair r q) ws)
first_halts h r q ws s (Unexpected at) e = ap (λ o. then_read (then_read o (λ x. then_read (q x.1) (λ y. Ok ((x.0, y.0), y.1)))) (λ x. Ok (h x.0, x.1))) e
first_halts h r q ws s (TooDeep at) e = ap (λ o. then_read (then_read o (λ x. then_read (q x.1) (λ y. Ok ((x.0, y.0), y.1)))) (λ x. Ok (h x.0, x.1))) e
first_halts h r q ws s Memory e = tt

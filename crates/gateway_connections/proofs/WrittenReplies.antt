-- The body that is written.
use Rattle.std.proofs.Common.{◌≡◌, ℕ, List, [], ◌∷◌, length, ap, subst, refl, ◌∙◌, arith, Bool, true, false, Option, Result}
use Rattle.std.specs.Prelude.{OnErr, ◌==◌}
use Rattle.std.proofs.lemmas.Bool.Decides.{nat_tests}
use Rattle.outside.specs.Contents.{AppendsFront}
use Rattle.gateway_core.specs.Messages.{message_body, no_memory_text}
use Rattle.gateway_connections.specs.declared.reply.Reply.{Reply}
use Rattle.gateway_connections.specs.Replies.{bytes_with, written, written_body}

some_body : (body : List ℕ) → false ≡ (length body == 0) → body ≡ written_body body
some_body [] none = absurd (cc none)
some_body (x ∷ body) none = refl

no_body : (body : List ℕ) → length body ≡ 0 → message_body no_memory_text ≡ written_body body
no_body [] empty = refl
no_body (x ∷ body) empty = absurd (omega (arith, empty))

counted : (n : ℕ) (items body : List ℕ) (b : Bool) → n ≡ length items → items ≡ body → b ≡ (n == 0) → b ≡ (length body == 0)
counted n items body b count e is = is ∙ ap (λ k. k == 0) (count ∙ ap length e)

pub with_body : (close : Bool) (r : Reply) (items : List ℕ) (n : ℕ) → n ≡ length items → items ≡ r.body → false ≡ (n == 0) → bytes_with close r.status r.costs r.hint items ≡ written close r
with_body close r items n count e none = ap (bytes_with close r.status r.costs r.hint) (e ∙ some_body r.body (counted n items r.body false count e none))

pub without_body : (close : Bool) (r : Reply) (items spare : List ℕ) (n : ℕ) → n ≡ length items → items ≡ r.body → true ≡ (n == 0) → spare ≡ message_body no_memory_text
    → bytes_with close r.status r.costs r.hint spare ≡ written close r
without_body close r items spare n count e empty is =
    let none : length r.body ≡ 0 = grind (arith, nat_tests, counted n items r.body true count e empty) in
    ap (bytes_with close r.status r.costs r.hint) (is ∙ no_body r.body none)

pub front_as : {E : Type 0} (r : Result (Unit {0}) E) (a b : Option (List ℕ)) (xs ys : List ℕ) → xs ≡ ys → OnErr r (AppendsFront a b xs) → OnErr r (AppendsFront a b ys)
front_as r a b xs ys e = subst (λ l. OnErr r (AppendsFront a b l)) e

-- Fields that are told to look like others.
use Rattle.std.proofs.Common.{◌≡◌, inl, inr, ℕ, zero, suc, ◌+◌, ◌<◌, ◌≤◌, List, [], ◌∷◌, ◌++◌, map, take, length, get_or, refl, sym, ap, ◌∙◌, subst, append-nil, arith}
use Rattle.std.proofs.lemmas.List.{map_push, take_more, take_all}
use Rattle.gql_base.specs.parts.Trees.{named_value}
use Rattle.document_rules.proofs.SiteSteps.{name_of_names}
use Rattle.schema_model.specs.SchemaData.{SchemaData}
use Rattle.plan_model.specs.GivenAlike.{AreGivenAlike}
use Rattle.plan_model.specs.Likeness.{HasLike, LooksLike, AreLike}
use Rattle.plan_model.proofs.LikeLists.{one_behind}
use Rattle.collected_fields.specs.declared.collected.Collected.{Collected}
use Rattle.collected_fields.specs.Views.{collected_field, asks_in}

pub look_alike : (s : SchemaData) (f g : Collected) → (collected_field f).key ≡ (collected_field g).key → f.field.now.name.text ≡ g.field.now.name.text → asks_in s (collected_field f) ≡ asks_in s (collected_field g)
    → AreGivenAlike (map named_value f.field.now.arguments.items) (map named_value g.field.now.arguments.items) → LooksLike s (collected_field f) (collected_field g)
look_alike s f g keys names asked given = record {
  key = keys;
  name = ap (λ i. i.0) (name_of_names f.field.now.alias f.field.now.name) ∙ (names ∙ sym (ap (λ i. i.0) (name_of_names g.field.now.alias g.field.now.name)));
  given = given;
  asked = asked;
}

pub like_at : (s : SchemaData) (fields : List Collected) (at : ℕ) (f g : Collected) → at < length fields → g ≡ get_or fields at g → LooksLike s (collected_field f) (collected_field g) → HasLike (LooksLike s) (map collected_field fields) (collected_field f)
like_at s [] at f g less is like = absurd (none_less at less)
  where
    none_less : (n : ℕ) → n < 0 → ⊥
    none_less n h = omega arith
like_at s (x ∷ fields) zero f g less is like = inl (subst (λ y. LooksLike s (collected_field f) (collected_field y)) is like)
like_at s (x ∷ fields) (suc at) f g less is like = inr (like_at s fields at f g (omega arith) is like)

module _ (s : SchemaData) (fields : List Collected) (at : ℕ) (f : Collected) (here : at < length fields) (is : f ≡ get_or fields at f) where
  one_further : map collected_field (take (at + 1) fields) ≡ map collected_field (take at fields) ++ (collected_field f ∷ [])
  one_further = ap (map collected_field) (take_more fields at f here ∙ ap (λ x. take at fields ++ (x ∷ [])) (sym is)) ∙ map_push collected_field (take at fields) f

  pub one_left_out : (unlike : List Collected) → AreLike s (map collected_field (take at fields)) (map collected_field unlike) → HasLike (LooksLike s) (map collected_field unlike) (collected_field f) → AreLike s (map collected_field (take (at + 1) fields)) (map collected_field unlike)
  one_left_out unlike before like =
      subst (λ xs. AreLike s xs (map collected_field unlike)) (sym one_further)
      (subst (λ ys. AreLike s (map collected_field (take at fields) ++ (collected_field f ∷ [])) ys) (append-nil (map collected_field unlike))
      (one_behind (LooksLike s) [] (map collected_field (take at fields)) (map collected_field unlike) (collected_field f ∷ []) [] before (like, tt)))

  pub one_stays : (unlike more : List Collected) → more ≡ unlike ++ (f ∷ []) → AreLike s (map collected_field (take at fields)) (map collected_field unlike) → AreLike s (map collected_field (take (at + 1) fields)) (map collected_field more)
  one_stays unlike more grown before =
      subst (λ xs. AreLike s xs (map collected_field more)) (sym one_further)
      (subst (λ ys. AreLike s (map collected_field (take at fields) ++ (collected_field f ∷ [])) ys) (sym (ap (map collected_field) grown ∙ map_push collected_field unlike f))
      (one_behind (LooksLike s) [] (map collected_field (take at fields)) (map collected_field unlike) (collected_field f ∷ []) (collected_field f ∷ []) before
      (inl (record { key = refl; name = refl; given = λ values. refl; asked = refl }, tt))))

pub all_looked_at : (s : SchemaData) (fields unlike : List Collected) (at : ℕ) → length fields ≤ at → AreLike s (map collected_field (take at fields)) (map collected_field unlike) → AreLike s (map collected_field fields) (map collected_field unlike)
all_looked_at s fields unlike at past h = subst (λ cs. AreLike s (map collected_field cs) (map collected_field unlike)) (take_all at fields past) h

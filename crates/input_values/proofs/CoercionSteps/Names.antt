-- The first wrong name of an object, while names are gone through.
use Rattle.std.proofs.Common.{ℕ, ◌≡◌, true, false, List, ◌∷◌, Option, Some, sym, ap, ◌∙◌, cond}
use Rattle.gql_base.proofs.NameLaws.RepeatedLaws.{Knows}
use Rattle.input_values.specs.coercion.Forms.{FieldForm}
use Rattle.input_values.specs.coercion.Objects.{is_wrong, wrong_name}

pub record GoesOn (fields : List FieldForm) (places : List ℕ → Option ℕ) (rest : List (List ℕ)) (whole : Option (List ℕ)) : Type 0 where
  pub seen : List (List ℕ)
  pub knows : Knows places seen
  pub same : wrong_name false fields seen rest ≡ whole

pub here_wrong : (fields : List FieldForm) (seen : List (List ℕ)) (name : List ℕ) (rest : List (List ℕ)) (whole : Option (List ℕ)) → is_wrong false fields seen name ≡ true → wrong_name false fields seen (name ∷ rest) ≡ whole → Some name ≡ whole
here_wrong fields seen name rest whole wrong same = sym (ap (λ b. cond b (Some name) (wrong_name false fields (name ∷ seen) rest)) wrong) ∙ same

pub not_wrong : (fields : List FieldForm) (seen : List (List ℕ)) (name : List ℕ) (rest : List (List ℕ)) (whole : Option (List ℕ)) → is_wrong false fields seen name ≡ false → wrong_name false fields seen (name ∷ rest) ≡ whole → wrong_name false fields (name ∷ seen) rest ≡ whole
not_wrong fields seen name rest whole right same = sym (ap (λ b. cond b (Some name) (wrong_name false fields (name ∷ seen) rest)) right) ∙ same

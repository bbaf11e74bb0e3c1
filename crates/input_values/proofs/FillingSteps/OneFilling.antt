-- Defaults are filled in one way: what a default is filled with is smaller than its value, so smaller ones agree first.
use Rattle.std.proofs.Common.{◌≡◌, ◌<◌, ◌⊎◌, inl, inr, ℕ, zero, suc, cond, leb, List, [], ◌∷◌, map, Option, Some, None, Ok, Err, refl, sym, ap, ◌∙◌, subst, arith}
use Rattle.std.proofs.Math.Path.{fun_ext}
use Rattle.std.proofs.lemmas.Bool.{cases_Bool}
use Rattle.gql_base.specs.parts.Values.{ValueTree}
use Rattle.input_values.specs.values.Coerced.{CoercedTree, nodes}
use Rattle.input_values.specs.inputs.Shapes.{ShapeTree}
use Rattle.input_values.specs.coercion.Answers.{Answer, refused}
use Rattle.input_values.specs.coercion.Forms.{absence_of, InputForm}
use Rattle.input_values.specs.coercion.Coercion.{coerced}
use Rattle.input_values.specs.coercion.Literals.{no_variables, literal_given}
use Rattle.input_values.specs.defaults.Drafts.{FieldDraft, Draft, settled, drafted, most_nodes, small_enough, default_value, default_absence, draft_absence, filled_field, filled_form, AreFilled}
use Rattle.input_values.proofs.CoercionLaws.Grown.{AbsenceGrows, FieldsGrow, FormGrows}
use Rattle.input_values.proofs.FillingSteps.Found.{absence_self, form_self, default_more}

abbrev Values : Type 0
Values = ShapeTree → ValueTree → Answer CoercedTree

-- values of fewer nodes than this are values of the others too
abbrev AgreeBelow : ℕ → Values → Values → Type 0
AgreeBelow k v w = (s : ShapeTree) (l : ValueTree) (t : CoercedTree) → nodes t < k → v s l ≡ Ok t → w s l ≡ Ok t

default_alike : (k : ℕ) (a b : Answer CoercedTree) → ((t : CoercedTree) → nodes t < k → a ≡ Ok t → b ≡ Ok t) → AbsenceGrows k (default_absence a) (default_absence b)
default_alike k (Ok t) b each = λ few. ap default_absence (each t few refl)
default_alike k (Err path) b each = tt

absence_alike : (k : ℕ) (v w : Values) (s : ShapeTree) (l : Option ValueTree) → AgreeBelow k v w → AbsenceGrows k (draft_absence v s l) (draft_absence w s l)
absence_alike k v w s None each = absence_self k (absence_of s)
absence_alike k v w s (Some l) each = default_alike k (v s l) (w s l) (each s l)

fields_alike : (k : ℕ) (v w : Values) (fs : List FieldDraft) → AgreeBelow k v w → FieldsGrow k (map (filled_field v) fs) (map (filled_field w) fs)
fields_alike k v w [] each = tt
fields_alike k v w (f ∷ fs) each = (record { name = refl; shape = refl; absence = absence_alike k v w f.shape f.default each }, fields_alike k v w fs each)

form_alike : (k : ℕ) (v w : Values) (d : Draft) → AgreeBelow k v w → FormGrows k (filled_form v d) (filled_form w d)
form_alike k v w (settled form) each = form_self k form
form_alike k v w (drafted fs) each = (map (filled_field w) fs, refl, fields_alike k v w fs each)

values_alike : (k : ℕ) (draft : ℕ → Draft) (a b : ℕ → InputForm) → AreFilled draft a → AreFilled draft b → AgreeBelow k (default_value a) (default_value b)
values_alike zero draft a b one other s l t few e = absurd (omega (arith, few))
values_alike (suc k) draft a b one other s l t few e =
    default_more k a b s l t (omega (arith, few))
    (λ of. subst (λ x. FormGrows k x (b of)) (sym (one of)) (subst (FormGrows k (filled_form (default_value a) (draft of))) (sym (other of)) (form_alike k (default_value a) (default_value b) (draft of) (values_alike k draft a b one other)))) e

value_or_none : (x : Answer CoercedTree) → ((t : CoercedTree) × (small_enough x ≡ Ok t)) ⊎ (small_enough x ≡ refused)
value_or_none (Ok t) = elim (cases_Bool (leb (nodes t) most_nodes)) [
  | inl e ↦ inl (t, ap (λ b. cond b (Ok t) refused) e)
  | inr e ↦ inr (ap (λ b. cond b (Ok t) refused) e)
]
value_or_none (Err path) = inr refl

one_value : (draft : ℕ → Draft) (a b : ℕ → InputForm) → AreFilled draft a → AreFilled draft b → (s : ShapeTree) (l : ValueTree) → default_value a s l ≡ default_value b s l
one_value draft a b one other s l = elim (value_or_none (coerced a (literal_given no_variables l) s)) [
  | inl p ↦ p.1 ∙ sym (values_alike (suc (nodes p.0)) draft a b one other s l p.0 (omega arith) p.1)
  | inr r ↦ elim (value_or_none (coerced b (literal_given no_variables l) s)) [
    | inl q ↦ values_alike (suc (nodes q.0)) draft b a other one s l q.0 (omega arith) q.1 ∙ sym q.1
    | inr n ↦ r ∙ sym n
  ]
]

pub one_filling : (draft : ℕ → Draft) (a b : ℕ → InputForm) → AreFilled draft a → AreFilled draft b → a ≡ b
one_filling draft a b one other = fun_ext (λ of. one of ∙ (ap (λ v. filled_form v (draft of)) (fun_ext (λ s. fun_ext (λ l. one_value draft a b one other s l))) ∙ sym (other of)))

-- The walk of the program, step after step.
use Rattle.std.proofs.Common.{◌≡◌, ◌++◌, take, append-nil, append_assoc, ⊎_elim, ◌<◌, ◌≤◌, ◌+◌, ◌-◌, ℕ, zero, suc, List, [], ◌∷◌, map, drop, length, get_or, slice_get, Option, true, false, refl, sym, ap, ◌∙◌, arith}
use Rattle.std.proofs.lemmas.Bool.{cases_lt}
use Rattle.std.proofs.lemmas.List.{drop_all, drop-drop, map_push, take_more, take_all}
use Rattle.gql_base.proofs.Lists.{at_front}
use Rattle.schema_model.specs.SchemaData.{SchemaData}
use Rattle.collected_fields.specs.declared.steps.Step.{Step}
use Rattle.collected_fields.specs.declared.collected.Collected.{Collected}
use Rattle.collected_fields.specs.Steps.{StepData, step_data}
use Rattle.collected_fields.specs.Prepared.{EntryData}
use Rattle.collected_fields.specs.Walks.{NumberedField, WalkData, numbered, is_marked, marked, kept, taken, walk_steps, walk_entry, walk_fragment}

-- the steps behind a place
pub behind : (steps : List Step) (at skip place : ℕ) → (skip < length steps - at → place ≡ at + 1 + skip) → (length steps ≤ at + skip → place ≡ length steps) → drop place steps ≡ drop skip (drop (at + 1) steps)
behind steps at skip place some all = ⊎_elim
    (λ (less : at + skip < length steps). ap (λ n. drop n steps) (some (omega arith)) ∙ sym (drop-drop skip (at + 1) steps))
    (λ (past : length steps ≤ at + skip). ap (λ n. drop n steps) (all past) ∙ (drop_all (length steps) steps (omega arith) ∙ sym (drop-drop skip (at + 1) steps ∙ drop_all (at + 1 + skip) steps (omega arith))))
    (cases_lt (at + skip) (length steps))

module _ (s : SchemaData) (T : ℕ) (enter : ℕ → WalkData → WalkData) where
  passing : (n : ℕ) (xs : List Step) (w : WalkData) → walk_steps s T enter n (map step_data xs) w ≡ walk_steps s T enter 0 (map step_data (drop n xs)) w
  passing zero xs w = refl
  passing (suc n) [] w = refl
  passing (suc n) (x ∷ xs) w = passing n xs w

  pub next_step : (steps : List Step) (at skip place : ℕ) (x : Step) (w v whole : WalkData) → at < length steps → x ≡ get_or steps at x → (skip < length steps - at → place ≡ at + 1 + skip) → (length steps ≤ at + skip → place ≡ length steps)
      → ((others : List StepData) → walk_steps s T enter skip others v ≡ walk_steps s T enter 0 (step_data x ∷ others) w) → walk_steps s T enter 0 (map step_data (drop at steps)) w ≡ whole → walk_steps s T enter 0 (map step_data (drop place steps)) v ≡ whole
  next_step steps at skip place x w v whole here is some all step before =
      ap (λ xs. walk_steps s T enter 0 (map step_data xs) v) (behind steps at skip place some all)
      ∙ (sym (passing skip (drop (at + 1) steps) v) ∙ (step (map step_data (drop (at + 1) steps)) ∙ (ap (λ xs. walk_steps s T enter 0 (map step_data xs) w) (sym (at_front steps at x here is)) ∙ before)))

  pub no_step : (steps : List Step) (at : ℕ) (w whole : WalkData) → length steps ≤ at → walk_steps s T enter 0 (map step_data (drop at steps)) w ≡ whole → w ≡ whole
  no_step steps at w whole past before = sym (ap (λ xs. walk_steps s T enter 0 (map step_data xs) w) (drop_all at steps past)) ∙ before

-- ---- a fragment

module _ (s : SchemaData) (T : ℕ) (steps : ℕ → List StepData) (known : ℕ → Option (List NumberedField)) (entries : List EntryData) where
  pub at_no_depth : (d k : ℕ) (w : WalkData) → d ≡ 0 → w ≡ walk_fragment s T steps known entries d k w
  unfolding walk_fragment
  at_no_depth zero k w none = refl
  at_no_depth (suc d) k w none = absurd (no_zero d none)
    where
      no_zero : (d : ℕ) → suc d ≡ 0 → ⊥
      no_zero d e = omega (arith, e)

  pub passed_over : (d k : ℕ) (w : WalkData) → is_marked k w ≡ true → w ≡ walk_fragment s T steps known entries d k w
  unfolding walk_fragment
  passed_over zero k w is = refl
  passed_over (suc d) k w is = rw (is) refl

  pub gone_into : (d k : ℕ) (w v u : WalkData) → (d ≡ 0 → ⊥) → is_marked k w ≡ false → v ≡ marked k w → u ≡ walk_entry s T steps known entries (walk_fragment s T steps known entries (d - 1)) (slice_get entries k) v → u ≡ walk_fragment s T steps known entries d k w
  unfolding walk_fragment
  gone_into zero k w v u some new is walks = absurd (some refl)
  gone_into (suc d) k w v u some new is walks = let less : suc d - 1 ≡ d = omega arith in rw (new) (walks ∙ (ap (λ n. walk_entry s T steps known entries (walk_fragment s T steps known entries n) (slice_get entries k) v) less ∙ ap (λ x. walk_entry s T steps known entries (walk_fragment s T steps known entries d) (slice_get entries k) x) is))

-- ---- fields that are taken

taken_none : (w : WalkData) → w ≡ taken [] w
taken_none w = ap (λ (fs : List NumberedField). record w { fields = fs }) (sym (append-nil w.fields))

pub taken_next : (fields : List Collected) (at : ℕ) (f : Collected) (w v u : WalkData) → at < length fields → f ≡ get_or fields at f → v ≡ taken (map numbered (take at fields)) w → u ≡ kept (numbered f) v → u ≡ taken (map numbered (take (at + 1) fields)) w
taken_next fields at f w v u here is before step =
    step ∙ (ap (kept (numbered f)) before ∙ ap (λ (fs : List NumberedField). record w { fields = fs }) (append_assoc w.fields (map numbered (take at fields)) (numbered f ∷ [])
    ∙ ap (λ (fs : List NumberedField). w.fields ++ fs) (sym (ap (map numbered) (take_more fields at f here ∙ ap (λ x. take at fields ++ (x ∷ [])) (sym is)) ∙ map_push numbered (take at fields) f))))

pub taken_start : (fields : List Collected) (w : WalkData) → w ≡ taken (map numbered (take 0 fields)) w
taken_start fields w = taken_none w

pub taken_all : (fields : List Collected) (at : ℕ) (w v : WalkData) → length fields ≤ at → v ≡ taken (map numbered (take at fields)) w → v ≡ taken (map numbered fields) w
taken_all fields at w v past h = h ∙ ap (λ (cs : List Collected). taken (map numbered cs) w) (take_all at fields past)

-- Steps that stand for selections.
use Rattle.std.proofs.Common.{◌≡◌, inl, inr, ⊎_elim, ℕ, zero, suc, ◌<◌, List, [], ◌∷◌, ◌++◌, find, slice_get, length, Bool, true, false, bytes_eq, Option, Some, None, refl, sym, ap, ◌∙◌, subst, append_assoc, append-nil, arith, if◌then◌else◌}
use Rattle.std.proofs.lemmas.Bool.{cases_Bool}
use Rattle.std.proofs.lemmas.Slice.Eq.{bytes_eq-Decides}
use Rattle.std.specs.Prelude.{IfSome}
use Rattle.gql_base.specs.ways.Reading.{Identifier}
use Rattle.gql_base.specs.names.Names.{place_of_name}
use Rattle.gql_base.specs.parts.Arguments.{DirectiveTree}
use Rattle.gql_base.specs.parts.Values.{NamedValue}
use Rattle.gql_base.proofs.NameLaws.IndexLaws.{found, standing, is_within}
use Rattle.document_reader.specs.Documents.{FieldNames, SelectionTree, field_selection, fragment_spread, inline_fragment, SelectionTrees}
use Rattle.document_reader.specs.DocumentReading.{selections_from}
use Rattle.schema_model.specs.SchemaData.{SchemaData, applies, type_named}
use Rattle.document_rules.specs.Parts.{FragmentData, fragment_name}
use Rattle.document_rules.specs.Sites.{name_of_field, below_inline}
use Rattle.plan_model.specs.SelectedFields.{Setting}
use Rattle.plan_model.specs.Collecting.{CollectedField, is_included, applies_where, applies_by_name, applies_if_named, fragment_named, fields_of, fields_in}
use Rattle.plan_model.specs.MergingWalk.{OneRanked, AreRanked}
use Rattle.plan_model.specs.Repeats.{Holds, IsThinned}
use Rattle.cost_directives.proofs.FirstsFound.{never, found_passes}
use Rattle.plan_model.proofs.Thinning.{held_left, held_right, held_either, IsIn, seen_more, all_stay, in_two}
use Rattle.collected_fields.specs.Steps.{StepData, field_step, spread_step, inline_step, fields_of_steps, IsClosed, Stands, fields_of_fragment, by_number, StepsRanked, LeavesOutUnknown, SameStep, SameSteps, StandsFor}
use Rattle.collected_fields.proofs.EachLaws.{each_apart}
use Rattle.collected_fields.specs.Prepared.{spread_steps, steps_of_spread, conditional_steps, steps_where, steps_of_inline}

module _ (s : SchemaData) (T : ℕ) (spread : ℕ → List CollectedField) where
  passed_all : (xs ys : List StepData) → fields_of_steps s T spread (length xs) (xs ++ ys) ≡ fields_of_steps s T spread 0 ys
  passed_all [] ys = refl
  passed_all (x ∷ xs) ys = passed_all xs ys

  all_passed : (xs : List StepData) → fields_of_steps s T spread (length xs) xs ≡ []
  all_passed [] = refl
  all_passed (x ∷ xs) = all_passed xs

  more_held : (n : ℕ) (xs ys : List StepData) (f : CollectedField) → Holds (fields_of_steps s T spread n xs) f → Holds (fields_of_steps s T spread n (xs ++ ys)) f
  more_held n [] ys f h = absurd h
  more_held (suc n) (x ∷ xs) ys f h = more_held n xs ys f h
  more_held zero (field_step g below ∷ xs) ys f (inl is) = inl is
  more_held zero (field_step g below ∷ xs) ys f (inr h) = inr (more_held zero xs ys f h)
  more_held zero (spread_step k ∷ xs) ys f h = ⊎_elim
      (λ (l : Holds (spread k) f). held_left (spread k) (fields_of_steps s T spread 0 (xs ++ ys)) f l)
      (λ (r : Holds (fields_of_steps s T spread 0 xs) f). held_right (spread k) (fields_of_steps s T spread 0 (xs ++ ys)) f (more_held zero xs ys f r))
      (held_either (spread k) (fields_of_steps s T spread 0 xs) f h)
  more_held zero (inline_step on count ∷ xs) ys f h = more_held (if applies s on T then 0 else count) xs ys f h

-- What stands among steps stands among more.
pub stands_longer : (xs ys : List StepData) (f : CollectedField) → Stands xs f → Stands (xs ++ ys) f
stands_longer xs ys f h = λ s T spread. more_held s T spread 0 xs ys f (h s T spread)

pub closed_both : (xs ys : List StepData) → IsClosed xs → IsClosed ys → IsClosed (xs ++ ys)
closed_both xs ys a b s T spread others =
    ap (fields_of_steps s T spread 0) (append_assoc xs ys others) ∙ (a s T spread (ys ++ others)
    ∙ (ap (λ (fs : List CollectedField). fields_of_steps s T spread 0 xs ++ fs) (b s T spread others)
    ∙ (sym (append_assoc (fields_of_steps s T spread 0 xs) (fields_of_steps s T spread 0 ys) (fields_of_steps s T spread 0 others))
    ∙ ap (λ (fs : List CollectedField). fs ++ fields_of_steps s T spread 0 others) (sym (a s T spread ys)))))

-- a field behind closed steps stands among them
pub last_stands : (xs : List StepData) (f : CollectedField) (below : ℕ) → IsClosed xs → Stands (xs ++ (field_step f below ∷ [])) f
last_stands xs f below closed s T spread = subst (λ (fs : List CollectedField). Holds fs f) (sym (closed s T spread (field_step f below ∷ []))) (held_right (fields_of_steps s T spread 0 xs) (f ∷ []) f (inl refl))

pub one_closed : (f : CollectedField) (below : ℕ) → IsClosed (field_step f below ∷ [])
one_closed f below s T spread others = refl

-- ---- one selection

fields_alone : (e : Setting) (T : ℕ) (spread : List ℕ → List CollectedField) (parent : Option ℕ) (t : SelectionTree) → is_included e.values t ≡ true → fields_in e T spread parent (selections_from (t ∷ [])) ≡ fields_of e T spread parent t
fields_alone e T spread parent t stays = rw (stays) (append-nil (fields_of e T spread parent t))

abbrev Gives : Setting → List StepData → Option ℕ → SelectionTree → List StepData → Type 0
Gives e before parent t steps = (T : ℕ) (spread : List ℕ → List CollectedField) → LeavesOutUnknown e spread
    → IsThinned (fields_of_steps e.schema T (by_number e spread) 0 before) (fields_of e T spread parent t) (fields_of_steps e.schema T (by_number e spread) 0 steps)

one_stands : (e : Setting) (before : List StepData) (parent : Option ℕ) (t : SelectionTree) (steps : List StepData) → is_included e.values t ≡ true → Gives e before parent t steps → IsClosed steps
    → ((rank : List ℕ → ℕ) (bound : ℕ) → OneRanked rank bound t → StepsRanked e rank bound steps)
    → ((T U : ℕ) (spread : List ℕ → List CollectedField) → SameSteps e.schema T U steps → fields_of e T spread parent t ≡ fields_of e U spread parent t) → StandsFor e before parent (t ∷ []) steps
one_stands e before parent t steps stays gives closed ranks alike = record {
  fields = λ T spread unknown. subst (λ (fs : List CollectedField). IsThinned (fields_of_steps e.schema T (by_number e spread) 0 before) fs (fields_of_steps e.schema T (by_number e spread) 0 steps)) (sym (fields_alone e T spread parent t stays)) (gives T spread unknown);
  closed = closed;
  ranks = λ rank bound r. ranks rank bound r.0;
  alike = λ T U spread same. fields_alone e T spread parent t stays ∙ (alike T U spread same ∙ sym (fields_alone e U spread parent t stays));
}

pub left_out : (e : Setting) (before : List StepData) (parent : Option ℕ) (t : SelectionTree) → is_included e.values t ≡ false → StandsFor e before parent (t ∷ []) []
left_out e before parent t goes = record {
  fields = λ T spread unknown. rw (goes) tt;
  closed = λ s T spread others. refl;
  ranks = λ rank bound r. tt;
  alike = λ T U spread same. rw (goes) refl;
}

module _ (e : Setting) (before : List StepData) (parent : Option ℕ) where
  abbrev the_field : FieldNames → List NamedValue → SelectionTrees → CollectedField
  the_field names arguments below = record { parent = parent; key = names.0.0; call = record { name = (name_of_field names).0; arguments = arguments }; below = below }

  pub field_stands : (names : FieldNames) (arguments : List NamedValue) (directives : List DirectiveTree) (below : SelectionTrees) (number : ℕ) → is_included e.values (field_selection names arguments directives below) ≡ true
      → StandsFor e before parent (field_selection names arguments directives below ∷ []) (field_step (the_field names arguments below) number ∷ [])
  field_stands names arguments directives below number stays = one_stands e before parent (field_selection names arguments directives below) (field_step (the_field names arguments below) number ∷ []) stays
      (λ T spread unknown. inl (refl, tt)) (λ s T spread others. refl) (λ rank bound r. tt) (λ T U spread same. refl)

  pub repeat_stands : (names : FieldNames) (arguments : List NamedValue) (directives : List DirectiveTree) (below : SelectionTrees) → is_included e.values (field_selection names arguments directives below) ≡ true
      → Stands before (the_field names arguments below) → StandsFor e before parent (field_selection names arguments directives below ∷ []) []
  repeat_stands names arguments directives below stays stands = one_stands e before parent (field_selection names arguments directives below) [] stays
      (λ T spread unknown. (stands e.schema T (by_number e spread), tt)) (λ s T spread others. refl) (λ rank bound r. tt) (λ T U spread same. refl)

-- ---- spreads

-- the fragment of a number that a name has
pub record IsNamed (e : Setting) (name : List ℕ) (number : ℕ) : Type 0 where
  pub fragment : FragmentData
  pub there : slice_get e.fragments number ≡ Some fragment
  pub same : fragment_name fragment ≡ name
  pub first : fragment_named e name ≡ Some fragment

got_within : {A : Type 0} (xs : List A) (n : ℕ) → n < length xs → (x : A) × (slice_get xs n ≡ Some x)
got_within [] n h = absurd (never n h)
got_within (x ∷ xs) zero h = (x, refl)
got_within (x ∷ xs) (suc n) h = got_within xs n (omega arith)

pub named_at : (e : Setting) (name : List ℕ) (number : ℕ) → place_of_name fragment_name e.fragments name ≡ Some number → IsNamed e name number
unfolding fragment_named
named_at e name number is =
    let test : FragmentData → Bool = λ f. bytes_eq (fragment_name f) name in
    let within : number < length e.fragments = subst (λ (o : Option ℕ). IfSome o (λ at. at < length e.fragments)) is (is_within test e.fragments) in
    let there = got_within e.fragments number within in
    let first : find test e.fragments ≡ Some there.0 = found test e.fragments ∙ (ap (standing e.fragments) is ∙ there.1) in
    record {
      fragment = there.0;
      there = there.1;
      same = (bytes_eq-Decides (fragment_name there.0) name).0 (found_passes test e.fragments there.0 first);
      first = first;
    }

pub unnamed_at : (e : Setting) (name : List ℕ) → place_of_name fragment_name e.fragments name ≡ None → fragment_named e name ≡ None
unfolding fragment_named
unnamed_at e name is = found (λ f. bytes_eq (fragment_name f) name) e.fragments ∙ ap (standing e.fragments) is

module _ (e : Setting) (before : List StepData) (parent : Option ℕ) where
  spread_alone : (name : Identifier) (directives : List DirectiveTree) (o : Option ℕ) → is_included e.values (fragment_spread name directives) ≡ true → place_of_name fragment_name e.fragments name.0 ≡ o
      → StandsFor e before parent (fragment_spread name directives ∷ []) (spread_steps o)
  spread_alone name directives None stays is = one_stands e before parent (fragment_spread name directives) [] stays
      (λ T spread unknown. subst (λ (fs : List CollectedField). IsThinned (fields_of_steps e.schema T (by_number e spread) 0 before) fs []) (sym (unknown name.0 (unnamed_at e name.0 is))) tt)
      (λ s T spread others. refl) (λ rank bound r. tt) (λ T U spread same. refl)
  spread_alone name directives (Some number) stays is =
      let n = named_at e name.0 number is in
      one_stands e before parent (fragment_spread name directives) (spread_step number ∷ []) stays
      (λ T spread unknown. subst (λ (fs : List CollectedField). IsThinned (fields_of_steps e.schema T (by_number e spread) 0 before) (spread name.0) fs)
      (ap spread (sym n.same) ∙ (ap (fields_of_fragment spread) (sym n.there) ∙ sym (append-nil (by_number e spread number))))
      (all_stay (fields_of_steps e.schema T (by_number e spread) 0 before) (spread name.0)))
      (λ s T spread others. ap (λ (fs : List CollectedField). fs ++ fields_of_steps s T spread 0 others) (sym (append-nil (spread number))))
      (λ rank bound r. (record { fragment = n.fragment; there = n.there; first = ap (fragment_named e) n.same ∙ n.first; less = subst (λ (m : List ℕ). rank m < bound) (sym n.same) r }, tt)) (λ T U spread same. refl)

  pub spread_stands : (name : Identifier) (directives : List DirectiveTree) → is_included e.values (fragment_spread name directives) ≡ true
      → StandsFor e before parent (fragment_spread name directives ∷ []) (steps_of_spread e name.0)
  spread_stands name directives stays = spread_alone name directives (place_of_name fragment_name e.fragments name.0) stays refl

pub spread_closed : (o : Option ℕ) → IsClosed (spread_steps o)
spread_closed None s T spread others = refl
spread_closed (Some number) s T spread others = ap (λ (fs : List CollectedField). fs ++ fields_of_steps s T spread 0 others) (sym (append-nil (spread number)))

-- ---- inline fragments

module _ (e : Setting) (parent : Option ℕ) (ts : List SelectionTree) (steps : List StepData) (stands : StandsFor e [] parent ts steps) where
  abbrev FieldsWhere : List StepData → (ℕ → Bool) → List StepData → Type 0
  FieldsWhere before holds given = (T : ℕ) (spread : List ℕ → List CollectedField) → LeavesOutUnknown e spread
      → IsThinned (fields_of_steps e.schema T (by_number e spread) 0 before) (if holds T then fields_in e T spread parent (selections_from ts) else []) (fields_of_steps e.schema T (by_number e spread) 0 given)

  none_seen : {A : Type 0} (xs : List A) → IsIn [] xs
  none_seen xs x h = absurd h

  all_where : (before : List StepData) → FieldsWhere before (λ T. true) steps
  all_where before T spread unknown = seen_more [] (fields_of_steps e.schema T (by_number e spread) 0 before) (fields_in e T spread parent (selections_from ts)) (fields_of_steps e.schema T (by_number e spread) 0 steps)
      (none_seen (fields_of_steps e.schema T (by_number e spread) 0 before)) (stands.fields T spread unknown)

  where_applies : (before : List StepData) (on : ℕ) → FieldsWhere before (λ T. applies e.schema on T) (inline_step on (length steps) ∷ steps)
  where_applies before on T spread unknown = ⊎_elim
      (λ (does : applies e.schema on T ≡ true). rw (does) (all_where before T spread unknown))
      (λ (not_so : applies e.schema on T ≡ false). rw (not_so) (rw (all_passed e.schema T (by_number e spread) steps) tt))
      (cases_Bool (applies e.schema on T))

  conditional_where : (before : List StepData) (o : Option ℕ) → FieldsWhere before (λ T. applies_where e.schema T o) (conditional_steps o steps)
  conditional_where before None T spread unknown = tt
  conditional_where before (Some on) T spread unknown = where_applies before on T spread unknown

  named_where : (before : List StepData) (name : List ℕ) → FieldsWhere before (λ T. applies_by_name e.schema T name) (steps_where e.schema name steps)
  unfolding applies_by_name
  named_where before name T spread unknown = conditional_where before (type_named e.schema name) T spread unknown

  inline_where : (before : List StepData) (on : Option Identifier) → FieldsWhere before (λ T. applies_if_named e.schema T on) (steps_of_inline e.schema on steps)
  inline_where before None T spread unknown = all_where before T spread unknown
  inline_where before (Some on) T spread unknown = named_where before on.0 T spread unknown

  skip_closed : (s : SchemaData) (T : ℕ) (spread : ℕ → List CollectedField) (others : List StepData) (b : Bool)
      → fields_of_steps s T spread (if b then 0 else length steps) (steps ++ others) ≡ fields_of_steps s T spread (if b then 0 else length steps) steps ++ fields_of_steps s T spread 0 others
  skip_closed s T spread others true = stands.closed s T spread others
  skip_closed s T spread others false = passed_all s T spread steps others ∙ ap (λ (fs : List CollectedField). fs ++ fields_of_steps s T spread 0 others) (sym (all_passed s T spread steps))

  conditional_closed : (o : Option ℕ) → IsClosed (conditional_steps o steps)
  conditional_closed None s T spread others = refl
  conditional_closed (Some on) s T spread others = skip_closed s T spread others (applies s on T)

  pub inline_closed : (on : Option Identifier) → IsClosed (steps_of_inline e.schema on steps)
  inline_closed None = stands.closed
  inline_closed (Some on) = conditional_closed (type_named e.schema on.0)

  conditional_ranks : (o : Option ℕ) (rank : List ℕ → ℕ) (bound : ℕ) → StepsRanked e rank bound steps → StepsRanked e rank bound (conditional_steps o steps)
  conditional_ranks None rank bound r = tt
  conditional_ranks (Some on) rank bound r = r

  inline_ranks : (on : Option Identifier) (rank : List ℕ → ℕ) (bound : ℕ) → AreRanked rank bound (selections_from ts) → StepsRanked e rank bound (steps_of_inline e.schema on steps)
  inline_ranks None rank bound r = stands.ranks rank bound r
  inline_ranks (Some on) rank bound r = conditional_ranks (type_named e.schema on.0) rank bound (stands.ranks rank bound r)

  -- where the conditions apply to both types or to neither
  alike_where : (T U : ℕ) (spread : List ℕ → List CollectedField) (b c : Bool) → b ≡ c → SameSteps e.schema T U steps → (if b then fields_in e T spread parent (selections_from ts) else []) ≡ (if c then fields_in e U spread parent (selections_from ts) else [])
  alike_where T U spread b c is same =
      ap (λ (x : Bool). if x then fields_in e T spread parent (selections_from ts) else []) is ∙ ap (λ (fs : List CollectedField). if c then fs else []) (stands.alike T U spread same)

  conditional_alike : (o : Option ℕ) (T U : ℕ) (spread : List ℕ → List CollectedField) → SameSteps e.schema T U (conditional_steps o steps)
      → (if applies_where e.schema T o then fields_in e T spread parent (selections_from ts) else []) ≡ (if applies_where e.schema U o then fields_in e U spread parent (selections_from ts) else [])
  conditional_alike None T U spread same = refl
  conditional_alike (Some on) T U spread same = alike_where T U spread (applies e.schema on T) (applies e.schema on U) same.0 same.1

  named_alike : (name : List ℕ) (T U : ℕ) (spread : List ℕ → List CollectedField) → SameSteps e.schema T U (steps_where e.schema name steps)
      → (if applies_by_name e.schema T name then fields_in e T spread parent (selections_from ts) else []) ≡ (if applies_by_name e.schema U name then fields_in e U spread parent (selections_from ts) else [])
  unfolding applies_by_name
  named_alike name T U spread same = conditional_alike (type_named e.schema name) T U spread same

  inline_alike : (on : Option Identifier) (T U : ℕ) (spread : List ℕ → List CollectedField) → SameSteps e.schema T U (steps_of_inline e.schema on steps)
      → (if applies_if_named e.schema T on then fields_in e T spread parent (selections_from ts) else []) ≡ (if applies_if_named e.schema U on then fields_in e U spread parent (selections_from ts) else [])
  inline_alike None T U spread same = stands.alike T U spread same
  inline_alike (Some on) T U spread same = named_alike on.0 T U spread same

pub inline_stands : (e : Setting) (before : List StepData) (parent : Option ℕ) (on : Option Identifier) (directives : List DirectiveTree) (ts : List SelectionTree) (steps : List StepData) → is_included e.values (inline_fragment on directives (selections_from ts)) ≡ true
    → StandsFor e [] (below_inline e.schema parent on) ts steps → StandsFor e before parent (inline_fragment on directives (selections_from ts) ∷ []) (steps_of_inline e.schema on steps)
inline_stands e before parent on directives ts steps stays stands = one_stands e before parent (inline_fragment on directives (selections_from ts)) (steps_of_inline e.schema on steps) stays
    (inline_where e (below_inline e.schema parent on) ts steps stands before on) (inline_closed e (below_inline e.schema parent on) ts steps stands on) (inline_ranks e (below_inline e.schema parent on) ts steps stands on)
    (inline_alike e (below_inline e.schema parent on) ts steps stands on)

-- ---- one selection behind others

fields_in_two : (e : Setting) (T : ℕ) (spread : List ℕ → List CollectedField) (parent : Option ℕ) (ts us : List SelectionTree) → fields_in e T spread parent (selections_from (ts ++ us)) ≡ fields_in e T spread parent (selections_from ts) ++ fields_in e T spread parent (selections_from us)
fields_in_two e T spread parent [] us = refl
fields_in_two e T spread parent (t ∷ ts) us =
    let here : List CollectedField = if is_included e.values t then fields_of e T spread parent t else [] in
    ap (λ (fs : List CollectedField). here ++ fs) (fields_in_two e T spread parent ts us) ∙ sym (append_assoc here (fields_in e T spread parent (selections_from ts)) (fields_in e T spread parent (selections_from us)))

ranked_apart : (rank : List ℕ → ℕ) (bound : ℕ) (ts us : List SelectionTree) → AreRanked rank bound (selections_from (ts ++ us)) → AreRanked rank bound (selections_from ts) × AreRanked rank bound (selections_from us)
ranked_apart rank bound [] us r = (tt, r)
ranked_apart rank bound (t ∷ ts) us r = let rest = ranked_apart rank bound ts us r.1 in ((r.0, rest.0), rest.1)

steps_ranked : (e : Setting) (rank : List ℕ → ℕ) (bound : ℕ) (xs ys : List StepData) → StepsRanked e rank bound xs → StepsRanked e rank bound ys → StepsRanked e rank bound (xs ++ ys)
steps_ranked e rank bound [] ys r q = q
steps_ranked e rank bound (field_step f below ∷ xs) ys r q = steps_ranked e rank bound xs ys r q
steps_ranked e rank bound (spread_step number ∷ xs) ys r q = (r.0, steps_ranked e rank bound xs ys r.1 q)
steps_ranked e rank bound (inline_step on count ∷ xs) ys r q = steps_ranked e rank bound xs ys r q

pub nothing_stands : (e : Setting) (parent : Option ℕ) → StandsFor e [] parent [] []
nothing_stands e parent = record { fields = λ T spread unknown. tt; closed = λ s T spread others. refl; ranks = λ rank bound r. tt; alike = λ T U spread same. refl }

pub next_stands : (e : Setting) (parent : Option ℕ) (ts : List SelectionTree) (t : SelectionTree) (xs ys : List StepData) → StandsFor e [] parent ts xs → StandsFor e xs parent (t ∷ []) ys → StandsFor e [] parent (ts ++ (t ∷ [])) (xs ++ ys)
next_stands e parent ts t xs ys a b = record {
  fields = λ T spread unknown.
      let fx : List CollectedField = fields_of_steps e.schema T (by_number e spread) 0 xs in
      let fy : List CollectedField = fields_of_steps e.schema T (by_number e spread) 0 ys in
      subst (λ (fs : List CollectedField). IsThinned [] fs (fields_of_steps e.schema T (by_number e spread) 0 (xs ++ ys))) (sym (fields_in_two e T spread parent ts (t ∷ [])))
      (subst (λ (fs : List CollectedField). IsThinned [] (fields_in e T spread parent (selections_from ts) ++ fields_in e T spread parent (selections_from (t ∷ []))) fs) (sym (a.closed e.schema T (by_number e spread) ys))
      (in_two [] (fields_in e T spread parent (selections_from ts)) fx (fields_in e T spread parent (selections_from (t ∷ []))) fy (a.fields T spread unknown) (b.fields T spread unknown)));
  closed = closed_both xs ys a.closed b.closed;
  ranks = λ rank bound r. let both = ranked_apart rank bound ts (t ∷ []) r in steps_ranked e rank bound xs ys (a.ranks rank bound both.0) (b.ranks rank bound both.1);
  alike = λ T U spread same.
      let both = each_apart (SameStep e.schema T U) xs ys same in
      fields_in_two e T spread parent ts (t ∷ [])
      ∙ (ap (λ (fs : List CollectedField). fs ++ fields_in e T spread parent (selections_from (t ∷ []))) (a.alike T U spread both.0)
      ∙ (ap (λ (fs : List CollectedField). fields_in e U spread parent (selections_from ts) ++ fs) (b.alike T U spread both.1) ∙ sym (fields_in_two e U spread parent ts (t ∷ []))));
}

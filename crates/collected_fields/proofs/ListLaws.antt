-- Numbers of selection sets and of lists of them, while there come to be more.
use Rattle.std.proofs.Common.{◌≡◌, ℕ, ◌<◌, List, [], ◌∷◌, ◌++◌, map, flat_map, append-nil, append_assoc, refl, sym, ap, ◌∙◌, subst, arith}
use Rattle.std.proofs.lemmas.List.Elements.{All-head, All-tail, All-cons}
use Rattle.schema_model.specs.SchemaData.{SchemaData}
use Rattle.plan_model.specs.Repeats.{LeavesOutRepeats}
use Rattle.collected_fields.specs.declared.collected.Group.{Group}
use Rattle.collected_fields.specs.declared.joins.Joins.{Joins}
use Rattle.collected_fields.specs.Walks.{NumberedField}
use Rattle.collected_fields.specs.Serving.{number_alone}
use Rattle.collected_fields.specs.Lists.{sets_in_joins, IsNumberIn, AreNumbersIn, HasMore, StandFor, Finishes, AllFinish, HasNothing, Shortens, AllShorten}

pub more_itself : (j : Joins) → HasMore j j
more_itself j number h = (h, refl)

pub more_again : (a b c : Joins) → HasMore a b → HasMore b c → HasMore a c
more_again a b c first second number h = let there = first number h in let then = second number there.0 in (then.0, then.1 ∙ there.1)

pub still_numbers : (a b : Joins) (numbers : List ℕ) → HasMore a b → AreNumbersIn a numbers → AreNumbersIn b numbers
still_numbers a b [] more h = λ k d less. absurd (none_less k less)
  where
    none_less : (n : ℕ) → n < 0 → ⊥
    none_less n h = omega arith
still_numbers a b (n ∷ numbers) more h = All-cons (IsNumberIn b) n numbers (more n (All-head (IsNumberIn a) n numbers h)).0 (still_numbers a b numbers more (All-tail (IsNumberIn a) n numbers h))

pub same_sets : (a b : Joins) (numbers : List ℕ) → HasMore a b → AreNumbersIn a numbers → flat_map (sets_in_joins b) numbers ≡ flat_map (sets_in_joins a) numbers
same_sets a b [] more h = refl
same_sets a b (n ∷ numbers) more h =
    ap (λ xs. xs ++ flat_map (sets_in_joins b) numbers) (more n (All-head (IsNumberIn a) n numbers h)).1 ∙ ap (λ xs. sets_in_joins a n ++ xs) (same_sets a b numbers more (All-tail (IsNumberIn a) n numbers h))

-- what was made of numbers, seen from before and from behind
pub stand_still : (a b c d : Joins) (numbers others : List ℕ) → HasMore a b → HasMore c d → StandFor b c numbers others → StandFor a d numbers others
stand_still a b c d numbers others before behind stand known =
    let here = stand (still_numbers a b numbers before known) in (
      still_numbers c d others behind here.0,
      subst (λ xs. LeavesOutRepeats xs (flat_map (sets_in_joins d) others)) (same_sets a b numbers before known)
          (subst (λ ys. LeavesOutRepeats (flat_map (sets_in_joins b) numbers) ys) (sym (same_sets c d others behind here.0)) here.1),
    )

pub finishes_still : (s : SchemaData) (a b c d : Joins) (of : List NumberedField) (g : Group) → HasMore a b → HasMore c d → Finishes s b c of g → Finishes s a d of g
finishes_still s a b c d of g before behind f = record { like = f.like; below = stand_still a b c d (map number_alone of) g.below.items before behind f.below }

pub all_finish_still : (s : SchemaData) (a b c d : Joins) (of : List (List NumberedField)) (groups : List Group) → HasMore a b → HasMore c d → AllFinish s b c of groups → AllFinish s a d of groups
all_finish_still s a b c d [] [] before behind h = tt
all_finish_still s a b c d [] (g ∷ groups) before behind h = absurd h
all_finish_still s a b c d (of ∷ others) [] before behind h = absurd h
all_finish_still s a b c d (of ∷ others) (g ∷ groups) before behind h = (finishes_still s a b c d of g before behind h.0, all_finish_still s a b c d others groups before behind h.1)

pub one_more_finished : (s : SchemaData) (a b : Joins) (of : List (List NumberedField)) (groups : List Group) (last : List NumberedField) (g : Group) → AllFinish s a b of groups → Finishes s a b last g → AllFinish s a b (of ++ (last ∷ [])) (groups ++ (g ∷ []))
one_more_finished s a b [] [] last g h f = (f, tt)
one_more_finished s a b [] (x ∷ groups) last g h f = absurd h
one_more_finished s a b (of ∷ others) [] last g h f = absurd h
one_more_finished s a b (of ∷ others) (x ∷ groups) last g h f = (h.0, one_more_finished s a b others groups last g h.1 f)

pub shortens_still : (s : SchemaData) (a b c d : Joins) (of made : List NumberedField) → (HasNothing a → HasNothing b) → HasMore a b → HasMore c d → Shortens s b c of made → Shortens s a d of made
shortens_still s a b c d of made nothing before behind h = record { like = h.like; below = λ none. stand_still a b c d (map number_alone of) (map number_alone made) before behind (h.below (nothing none)) }

pub all_shorten_still : (s : SchemaData) (a b c d : Joins) (of : List (List NumberedField)) (made : List NumberedField) → (HasNothing a → HasNothing b) → HasMore a b → HasMore c d → AllShorten s b c of made → AllShorten s a d of made
all_shorten_still s a b c d [] made nothing before behind h = h
all_shorten_still s a b c d (of ∷ others) made nothing before behind h =
    (h.0, (h.1.0, ((h.1.1.0.0, shortens_still s a b c d of h.0 nothing before behind h.1.1.0.1), all_shorten_still s a b c d others h.1.0 nothing before behind h.1.1.1)))

pub one_more_shorter : (s : SchemaData) (a b : Joins) (of : List (List NumberedField)) (made : List NumberedField) (last short : List NumberedField) → AllShorten s a b of made → Shortens s a b last short → AllShorten s a b (of ++ (last ∷ [])) (made ++ short)
one_more_shorter s a b [] made last short h one = (short, ([], ((ap (λ ms. ms ++ short) h ∙ sym (append-nil short), one), refl)))
one_more_shorter s a b (of ∷ others) made last short h one =
    (h.0, (h.1.0 ++ short, ((ap (λ ms. ms ++ short) h.1.1.0.0 ∙ append_assoc h.0 h.1.0 short, h.1.1.0.1), one_more_shorter s a b others h.1.0 last short h.1.1.1 one)))

-- the number that stands for nothing still does
pub still_nothing : (a b : Joins) → a.count ≡ b.count → HasMore a b → HasNothing a → HasNothing b
still_nothing a b same more none =
    let there = more a.count none.0 in (
      subst (IsNumberIn b) same there.0,
      ap (sets_in_joins b) (sym same) ∙ (there.1 ∙ none.1),
    )

-- Numbers that stand for others, and groups that are made by them, one after another.
use Rattle.std.proofs.Common.{◌≡◌, inl, ℕ, ◌<◌, ◌≤◌, ◌+◌, length, List, [], ◌∷◌, ◌++◌, map, flat_map, take, drop, get_or, Option, Some, None, Vec, append-nil, append_assoc, refl, sym, ap, ◌∙◌, subst, arith}
use Rattle.std.specs.declared.alloc.Global.{Global}
use Rattle.std.specs.Prelude.{All}
use Rattle.std.proofs.lemmas.List.{map_push, map-append, take_more, take_all, drop_all}
use Rattle.gql_base.proofs.Lists.{at_front}
use Rattle.std.proofs.lemmas.List.Elements.{All-head, All-cons}
use Rattle.schema_model.specs.SchemaData.{SchemaData}
use Rattle.document_rules.proofs.Lists.{map_twice}
use Rattle.plan_model.specs.Collecting.{CollectedField}
use Rattle.plan_model.specs.Repeats.{LeavesOutRepeats}
use Rattle.plan_model.specs.Likeness.{LooksLike, AreLike, Thins}
use Rattle.plan_model.proofs.Thinning.{all_stay}
use Rattle.collected_fields.specs.declared.collected.Collected.{Collected}
use Rattle.collected_fields.specs.declared.collected.Group.{Group}
use Rattle.collected_fields.specs.declared.joins.Joins.{Joins}
use Rattle.collected_fields.specs.Views.{collected_field}
use Rattle.collected_fields.specs.Walks.{NumberedField, numbered, numbered_group, field_alone}
use Rattle.collected_fields.specs.Serving.{number_alone, with_number}
use Rattle.collected_fields.specs.Lists.{sets_in_joins, IsNumberIn, AreNumbersIn, HasMore, StandsForAll, MayStandForList, MayStandForAll, StandFor, Finishes, AllFinish, Shortens, AllShorten}
use Rattle.collected_fields.proofs.ServingLaws.{like_itself}
use Rattle.collected_fields.proofs.ListLaws.{more_itself, same_sets, still_numbers, all_finish_still, finishes_still, one_more_finished, still_nothing, shortens_still, all_shorten_still, one_more_shorter}

-- ---- fields without their numbers

pub alone_all : (fields : List Collected) → map field_alone (map numbered fields) ≡ map collected_field fields
alone_all fields = map_twice field_alone numbered fields

pub all_like_themselves : (s : SchemaData) (seen fields : List CollectedField) → Thins (LooksLike s) seen fields fields
all_like_themselves s seen [] = tt
all_like_themselves s seen (f ∷ fields) = inl (like_itself s f, all_like_themselves s (f ∷ seen) fields)

-- ---- numbers that stand for others

-- no number at all
no_numbers : (P : ℕ → Type 0) → All P []
no_numbers P k x less = absurd (none_less k less)
  where
    none_less : (n : ℕ) → n < 0 → ⊥
    none_less n h = omega arith

pub one_known : (j : Joins) (number : ℕ) → IsNumberIn j number → AreNumbersIn j (number ∷ [])
one_known j number h = All-cons (IsNumberIn j) number [] h (no_numbers (IsNumberIn j))

pub stand_themselves : (old new : Joins) (numbers : List ℕ) → HasMore old new → StandFor old new numbers numbers
stand_themselves old new numbers more known = (
  still_numbers old new numbers more known,
  subst (λ xs. LeavesOutRepeats (flat_map (sets_in_joins old) numbers) xs) (sym (same_sets old new numbers more known)) (all_stay [] (flat_map (sets_in_joins old) numbers)),
)

single : (numbers : List ℕ) (d : ℕ) → length numbers ≡ 1 → numbers ≡ get_or numbers 0 d ∷ []
single [] d one = absurd (omega (arith, one))
single (n ∷ []) d one = refl
single (n ∷ m ∷ numbers) d one = absurd (too_many one)
  where
    too_many : length (n ∷ m ∷ numbers) ≡ 1 → ⊥
    too_many h = omega (arith, h)

-- the only one
pub one_alone : (j : Joins) (numbers : List ℕ) (d : ℕ) → length numbers ≡ 1 → StandsForAll j j numbers (get_or numbers 0 d)
one_alone j numbers d one known =
    let number : ℕ = get_or numbers 0 d in
    let same : numbers ≡ number ∷ [] = single numbers d one in (
      All-head (IsNumberIn j) number [] (subst (λ ns. AreNumbersIn j ns) same known),
      subst (λ ns. LeavesOutRepeats (flat_map (sets_in_joins j) ns) (sets_in_joins j number)) (sym same)
          (subst (λ xs. LeavesOutRepeats xs (sets_in_joins j number)) (sym (append-nil (sets_in_joins j number))) (all_stay [] (sets_in_joins j number))),
    )

-- the number of a list in which repeats are left out
pub list_stands : (old new : Joins) (numbers list : List ℕ) (number : Option ℕ) → LeavesOutRepeats (flat_map (sets_in_joins old) numbers) list → MayStandForList new list number → MayStandForAll old new numbers number
list_stands old new numbers list None thin h = tt
list_stands old new numbers list (Some number) thin h = λ known. (h.0, subst (λ xs. LeavesOutRepeats (flat_map (sets_in_joins old) numbers) xs) (sym h.1) thin)

-- one number in the place of others
pub one_stands : (old new : Joins) (numbers : List ℕ) (number : ℕ) → StandsForAll old new numbers number → StandFor old new numbers (number ∷ [])
one_stands old new numbers number stands known =
    let here = stands known in (
      one_known new number here.0,
      subst (λ xs. LeavesOutRepeats (flat_map (sets_in_joins old) numbers) xs) (sym (append-nil (sets_in_joins new number))) here.1,
    )

-- ---- groups

pub finished : (s : SchemaData) (old new : Joins) (fields unlike : List Collected) (numbers below : List ℕ) (g : Group) → AreLike s (map collected_field fields) (map collected_field unlike) → numbers ≡ map number_alone (map numbered fields) → StandFor old new numbers below
    → g.fields.items ≡ unlike → g.below.items ≡ below → Finishes s old new (map numbered fields) g
finished s old new fields unlike numbers below g like is stand these those = record {
  like = subst (λ fs. AreLike s fs (map collected_field g.fields.items)) (sym (alone_all fields)) (subst (λ cs. AreLike s (map collected_field fields) (map collected_field cs)) (sym these) like);
  below = subst (λ ns. StandFor old new ns g.below.items) is (subst (λ bs. StandFor old new numbers bs) (sym those) stand);
}

module _ (s : SchemaData) (fields : List (Vec Collected Global)) (at : ℕ) (of : Vec Collected Global) (here : at < length fields) (is : of ≡ get_or fields at of) where
  one_key_more : map numbered_group (take (at + 1) fields) ≡ map numbered_group (take at fields) ++ (numbered_group of ∷ [])
  one_key_more = ap (map numbered_group) (take_more fields at of here ∙ ap (λ x. take at fields ++ (x ∷ [])) (sym is)) ∙ map_push numbered_group (take at fields) of

  pub finished_next : (a b c : Joins) (groups pushed : List Group) (g : Group) → pushed ≡ groups ++ (g ∷ []) → HasMore a b → HasMore b c → AllFinish s a b (map numbered_group (take at fields)) groups → Finishes s b c (numbered_group of) g
      → AllFinish s a c (map numbered_group (take (at + 1) fields)) pushed
  finished_next a b c groups pushed g grown first second before one =
      subst (λ fs. AllFinish s a c fs pushed) (sym one_key_more) (subst (λ gs. AllFinish s a c (map numbered_group (take at fields) ++ (numbered_group of ∷ [])) gs) (sym grown)
      (one_more_finished s a c (map numbered_group (take at fields)) groups (numbered_group of) g
      (all_finish_still s a a b c (map numbered_group (take at fields)) groups (more_itself a) second before) (finishes_still s a b c c (numbered_group of) g first (more_itself c) one)))

  pub shortened_next : (a b c : Joins) (all made pushed : List Collected) → pushed ≡ all ++ made → a.count ≡ b.count → HasMore a b → HasMore b c → AllShorten s a b (map numbered_group (take at fields)) (map numbered all) → Shortens s b c (numbered_group of) (map numbered made)
      → AllShorten s a c (map numbered_group (take (at + 1) fields)) (map numbered pushed)
  shortened_next a b c all made pushed grown same first second before one =
      subst (λ fs. AllShorten s a c fs (map numbered pushed)) (sym one_key_more)
      (subst (λ ns. AllShorten s a c (map numbered_group (take at fields) ++ (numbered_group of ∷ [])) ns) (sym (ap (map numbered) grown ∙ map-append numbered all made))
      (one_more_shorter s a c (map numbered_group (take at fields)) (map numbered all) (numbered_group of) (map numbered made)
      (all_shorten_still s a a b c (map numbered_group (take at fields)) (map numbered all) (λ none. none) (more_itself a) second before)
      (shortens_still s a b c c (numbered_group of) (map numbered made) (still_nothing a b same first) first (more_itself c) one)))

pub finished_all : (s : SchemaData) (a b : Joins) (fields : List (Vec Collected Global)) (at : ℕ) (groups : List Group) → length fields ≤ at → AllFinish s a b (map numbered_group (take at fields)) groups → AllFinish s a b (map numbered_group fields) groups
finished_all s a b fields at groups past h = subst (λ (fs : List (Vec Collected Global)). AllFinish s a b (map numbered_group fs) groups) (take_all at fields past) h

pub shortened_all : (s : SchemaData) (a b : Joins) (fields : List (Vec Collected Global)) (at : ℕ) (made : List NumberedField) → length fields ≤ at → AllShorten s a b (map numbered_group (take at fields)) made → AllShorten s a b (map numbered_group fields) made
shortened_all s a b fields at made past h = subst (λ (fs : List (Vec Collected Global)). AllShorten s a b (map numbered_group fs) made) (take_all at fields past) h

-- ---- few fields in the place of others

short_already : (s : SchemaData) (j : Joins) (fields : List NumberedField) → Shortens s j j fields fields
short_already s j fields = record { like = all_like_themselves s [] (map field_alone fields); below = λ none. stand_themselves j j (map number_alone fields) (more_itself j) }

pub short_copied : (s : SchemaData) (j : Joins) (fields made : List Collected) → made ≡ fields → Shortens s j j (map numbered fields) (map numbered made)
short_copied s j fields made same = subst (λ (cs : List Collected). Shortens s j j (map numbered fields) (map numbered cs)) (sym same) (short_already s j (map numbered fields))

alone_with : (number nothing : ℕ) (fields : List CollectedField) → map field_alone (with_number number nothing fields) ≡ fields
alone_with number nothing [] = refl
alone_with number nothing (f ∷ fields) = ap (λ fs. f ∷ fs) (alone_beside fields)
  where
    alone_beside : (fs : List CollectedField) → map field_alone (map (λ g. (g, nothing)) fs) ≡ fs
    alone_beside [] = refl
    alone_beside (g ∷ fs) = ap (λ gs. g ∷ gs) (alone_beside fs)

-- the numbers that stand for nothing
module _ (j : Joins) (nothing : ℕ) (known : IsNumberIn j nothing) (none : sets_in_joins j nothing ≡ []) where
  beside : List CollectedField → List NumberedField
  beside fs = map (λ g. (g, nothing)) fs

  nothings_known : (fs : List CollectedField) → AreNumbersIn j (map number_alone (beside fs))
  unfolding beside
  nothings_known [] = no_numbers (IsNumberIn j)
  nothings_known (f ∷ fs) = All-cons (IsNumberIn j) nothing (map number_alone (beside fs)) known (nothings_known fs)

  nothings_stand : (fs : List CollectedField) → flat_map (sets_in_joins j) (map number_alone (beside fs)) ≡ []
  unfolding beside
  nothings_stand [] = refl
  nothings_stand (f ∷ fs) = ap (λ xs. xs ++ flat_map (sets_in_joins j) (map number_alone (beside fs))) none ∙ nothings_stand fs

  pub with_known : (number : ℕ) (fs : List CollectedField) → IsNumberIn j number → AreNumbersIn j (map number_alone (with_number number nothing fs))
  unfolding beside
  with_known number [] h = no_numbers (IsNumberIn j)
  with_known number (f ∷ fs) h = All-cons (IsNumberIn j) number (map number_alone (beside fs)) h (nothings_known fs)

  pub with_stands : (number : ℕ) (f : CollectedField) (fs : List CollectedField) → flat_map (sets_in_joins j) (map number_alone (with_number number nothing (f ∷ fs))) ≡ sets_in_joins j number
  unfolding beside
  with_stands number f fs = ap (λ xs. sets_in_joins j number ++ xs) (nothings_stand fs) ∙ append-nil (sets_in_joins j number)

-- Fields that are like none are none.
like_none : (s : SchemaData) (fields : List CollectedField) → AreLike s fields [] → fields ≡ []
like_none s [] a = refl
like_none s (f ∷ fields) a = absurd a.0

pub shortened_by : (s : SchemaData) (old new : Joins) (fields made : List NumberedField) (unlike : List CollectedField) (number : ℕ) → old.count ≡ new.count → HasMore old new → AreLike s (map field_alone fields) unlike → StandsForAll old new (map number_alone fields) number
    → made ≡ with_number number new.count unlike → Shortens s old new fields made
shortened_by s old new fields made unlike number same more like stands is = subst (λ ns. Shortens s old new fields ns) (sym is) (record {
  like = subst (λ fs. AreLike s (map field_alone fields) fs) (sym (alone_with number new.count unlike)) like;
  below = λ nothing known.
      let none = still_nothing old new same more nothing in
      let here = stands known in
      (with_known new new.count none.0 none.1 number unlike here.0, by_fields none.0 none.1 unlike (like_none s (map field_alone fields)) like here.1);
})
  where
    by_fields : IsNumberIn new new.count → sets_in_joins new new.count ≡ [] → (us : List CollectedField) → (AreLike s (map field_alone fields) [] → map field_alone fields ≡ []) → AreLike s (map field_alone fields) us → LeavesOutRepeats (flat_map (sets_in_joins old) (map number_alone fields)) (sets_in_joins new number)
        → LeavesOutRepeats (flat_map (sets_in_joins old) (map number_alone fields)) (flat_map (sets_in_joins new) (map number_alone (with_number number new.count us)))
    by_fields there none [] empty a thin = subst (λ ns. LeavesOutRepeats (flat_map (sets_in_joins old) (map number_alone ns)) []) (sym (no_fields fields (empty a))) tt
      where
        no_fields : (ns : List NumberedField) → map field_alone ns ≡ [] → ns ≡ []
        no_fields [] e = refl
        no_fields (n ∷ ns) e = absurd (some (field_alone n) (map field_alone ns) e)
          where
            some : (f : CollectedField) (fs : List CollectedField) → (f ∷ fs) ≡ [] → ⊥
            some f fs e = cc
    by_fields there none (u ∷ us) empty a thin = subst (λ xs. LeavesOutRepeats (flat_map (sets_in_joins old) (map number_alone fields)) xs) (sym (with_stands new new.count there none number u us)) thin

-- ---- fields with a number in the place of their own

with_same : (nothing : ℕ) (fields : List CollectedField) → with_number nothing nothing fields ≡ map (λ g. (g, nothing)) fields
with_same nothing [] = refl
with_same nothing (f ∷ fields) = refl

pub with_next : (below nothing : ℕ) (fields made pushed : List Collected) (at : ℕ) (f new : Collected) (whole : List NumberedField) → at < length fields → f ≡ get_or fields at f → pushed ≡ made ++ (new ∷ []) → numbered new ≡ (collected_field f, below)
    → map numbered made ++ with_number below nothing (map collected_field (drop at fields)) ≡ whole → map numbered pushed ++ with_number nothing nothing (map collected_field (drop (at + 1) fields)) ≡ whole
with_next below nothing fields made pushed at f new whole here is grown same before =
    let rest : List CollectedField = map collected_field (drop (at + 1) fields) in
    ap (λ (ns : List NumberedField). ns ++ with_number nothing nothing rest) (ap (map numbered) grown ∙ (map_push numbered made new ∙ ap (λ n. map numbered made ++ (n ∷ [])) same))
    ∙ (append_assoc (map numbered made) ((collected_field f, below) ∷ []) (with_number nothing nothing rest)
    ∙ (ap (λ (ns : List NumberedField). map numbered made ++ ((collected_field f, below) ∷ ns)) (with_same nothing rest)
    ∙ (ap (λ (cs : List Collected). map numbered made ++ with_number below nothing (map collected_field cs)) (sym (at_front fields at f here is)) ∙ before)))

pub with_all : (below nothing : ℕ) (fields made : List Collected) (at : ℕ) (whole : List NumberedField) → length fields ≤ at → map numbered made ++ with_number below nothing (map collected_field (drop at fields)) ≡ whole → map numbered made ≡ whole
with_all below nothing fields made at whole past before =
    sym (append-nil (map numbered made)) ∙ (ap (λ (cs : List Collected). map numbered made ++ with_number below nothing (map collected_field cs)) (sym (drop_all at fields past)) ∙ before)

-- few fields of one key, whose first has a number for all
pub shortened_joined : (s : SchemaData) (old new : Joins) (fields unlike made : List Collected) (numbers : List ℕ) (number : ℕ) → new.count ≡ old.count → HasMore old new → AreLike s (map collected_field fields) (map collected_field unlike) → numbers ≡ map number_alone (map numbered fields)
    → StandsForAll old new numbers number → map numbered made ≡ with_number number new.count (map collected_field unlike) → Shortens s old new (map numbered fields) (map numbered made)
shortened_joined s old new fields unlike made numbers number same more like is stands by = shortened_by s old new (map numbered fields) (map numbered made) (map collected_field unlike) number (sym same) more
    (subst (λ fs. AreLike s fs (map collected_field unlike)) (sym (alone_all fields)) like) (subst (λ ns. StandsForAll old new ns number) is stands) by

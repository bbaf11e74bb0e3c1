-- Calls that are kept: found at their places, and known to be equal.
use Rattle.std.proofs.Common.{◌≡◌, ◌<◌, ℕ, zero, suc, Bool, true, false, not, List, [], ◌∷◌, ◌++◌, length, get_or, All, Option, Some, None, Result, Ok, Err, refl, sym, ap, ◌∙◌, subst}
use Rattle.std.specs.Prelude.{IfSome, option_to_list}
use Rattle.std.specs.List.{slice_get}
use Rattle.std.proofs.lemmas.List.Elements.{All-push, All-pop}
use Rattle.std.proofs.lemmas.Option.{slice_get_within, get_or_from_slice_get, slice_get_read}
use Rattle.schema_model.specs.declared.args.Args.{Args}
use Rattle.schema_model.specs.Arguments.{ArgData, args_data}
use Rattle.variable_coercion.specs.declared.faults.ArgFault.{ArgFault}
use Rattle.variable_coercion.specs.Refusals.{Refusal}
use Rattle.variable_coercion.specs.Calls.{argument_told, IsTold, AnswersRefusal}
use Rattle.plan_model.specs.SelectedFields.{Setting, refusal_of, if_coerced}
use Rattle.plan_model.specs.Collecting.{CollectedField}
use Rattle.plan_model.specs.SameArguments.{same_arguments}
use Rattle.plan_model.proofs.GivenArguments.{coerced_alike}
use Rattle.collected_fields.specs.Views.{collected_field}
use Rattle.merged_selections.specs.declared.call.Call.{Call}
use Rattle.merged_selections.specs.declared.calls.BuiltAt.{BuiltAt}
use Rattle.merged_selections.specs.NodeTests.{refused_in, differs_from, args_given, args_in, IsCall, IsKept, IsAlike, IsThereWith, IsAlikeAt, IsCallAt, same_calls, AreEqual, IsSameAsAt, AreSameAt, ComparesArgs, ComparesField, ComparesPlaces, GivesAt, IsBuiltAt, IsSameField, Compares, IsThere, coerced_of}
use Rattle.merged_selections.proofs.EqualCalls.{call_there, equal_none, equal_more}
use Rattle.merged_selections.proofs.NodeFaults.{same_themselves}

-- ---- what stands at a place

at_place : (P : Call → Type 0) (calls : List Call) (at : ℕ) (call : Call) → slice_get calls at ≡ Some call → All P calls → P call
at_place P calls at call is all = subst P (get_or_from_slice_get calls at call call is) (all at call (slice_get_within calls at call is))

-- a call of a field that is given alike is one of this field
called_alike : (e : Setting) (field : ℕ) (f : CollectedField) (call : Call) → IsAlike call field f → IsKept e call → IsCall e field f call
called_alike e field f call alike own = subst (λ (n : ℕ). IsCall e n f call) alike.0 (record {
  coerced = sym (coerced_alike e.schema call.of.number e.values (collected_field call.field).call.arguments f.call.arguments alike.1) ∙ own.coerced;
  sized = own.sized;
  cost = own.cost;
  hands = own.hands;
})

-- so is the one at a place where one is given alike
pub call_at : (e : Setting) (field : ℕ) (f : CollectedField) (calls : List Call) (at : ℕ) → All (IsKept e) calls → IsAlikeAt calls at field f → IsCallAt e calls at field f
call_at e field f calls at kept = there (slice_get calls at) refl
  where
    there : (found : Option Call) → slice_get calls at ≡ found → IsThereWith (λ call. IsAlike call field f) found → IsThereWith (IsCall e field f) found
    there None is alike = alike
    there (Some call) is alike = called_alike e field f call alike (at_place (IsKept e) calls at call is kept)

-- Its arguments are coerced.
pub known_fine : (e : Setting) (field : ℕ) (f : CollectedField) (calls : List Call) (at : ℕ) → All (IsKept e) calls → IsAlikeAt calls at field f → refused_in e field f ≡ None
known_fine e field f calls at kept alike = there (slice_get calls at) (call_at e field f calls at kept alike)
  where
    there : (found : Option Call) → IsThereWith (IsCall e field f) found → refused_in e field f ≡ None
    there None own = absurd own
    there (Some call) own = ap refusal_of own.coerced

-- ---- more calls

pub still_there : (P : Call → Type 0) (calls more : List Call) (at : ℕ) → IsThereWith P (slice_get calls at) → slice_get (calls ++ more) at ≡ slice_get calls at
still_there P [] more at h = absurd h
still_there P (c ∷ calls) more zero h = refl
still_there P (c ∷ calls) more (suc at) h = still_there P calls more at h

-- one more is kept
pub kept_more : (e : Setting) (made now : List Call) (equal : List ℕ) (call : Call) → now ≡ made ++ call ∷ [] → All (IsKept e) made → AreEqual e made equal → IsKept e call → All (IsKept e) now × AreEqual e now equal
kept_more e made now equal call is kept equals own = (subst (All (IsKept e)) (sym is) (All-push (IsKept e) made call kept own), equal_more e made now equal call is equals)

-- without the last one, where nothing is noted
pub kept_fewer : (e : Setting) (calls fewer : List Call) (equal : List ℕ) (last : Option Call) → calls ≡ fewer ++ option_to_list last → All (IsKept e) calls → equal ≡ [] → All (IsKept e) fewer × AreEqual e fewer equal
kept_fewer e calls fewer equal last is kept none = ((All-pop (IsKept e) calls fewer last is kept).0, equal_none e fewer equal none)

-- the one that was put last
pub put_last : (P : Call → Type 0) (calls : List Call) (call : Call) → P call → IsThereWith P (slice_get (calls ++ call ∷ []) (length calls))
put_last P [] call h = h
put_last P (c ∷ calls) call h = put_last P calls call h

-- so it is the call there
pub put_call : (e : Setting) (field : ℕ) (f : CollectedField) (calls now : List Call) (at : ℕ) (call : Call) → at ≡ length calls → now ≡ calls ++ call ∷ [] → IsCall e field f call → IsCallAt e now at field f
put_call e field f calls now at call last is own = subst (λ (n : ℕ). IsCallAt e now n field f) (sym last) (subst (λ (cs : List Call). IsCallAt e cs (length calls) field f) (sym is) (put_last (IsCall e field f) calls call own))

-- ---- what is compared

pub alike_within : (calls : List Call) (at field : ℕ) (f : CollectedField) → IsAlikeAt calls at field f → at < length calls
alike_within calls at field f = there (slice_get calls at) refl
  where
    there : (found : Option Call) → slice_get calls at ≡ found → IsThereWith (λ call. IsAlike call field f) found → at < length calls
    there None is h = absurd h
    there (Some call) is h = slice_get_within calls at call is

there_at : (P : Call → Type 0) (calls : List Call) (at : ℕ) (call : Call) → at < length calls → call ≡ get_or calls at call → P call → IsThereWith P (slice_get calls at)
there_at P calls at call within is h = subst (λ (o : Option Call). IsThereWith P o) (sym (slice_get_read calls (length calls) at call refl within is)) h

-- a field whose own call is known differs from another call where the two aren't equal
other_compares : (e : Setting) (field : ℕ) (f : CollectedField) (call other : Call) (same : Bool) → IsCall e field f other → same ≡ same_calls e call other → Compares (Ok (not same)) (refused_in e field f) (differs_from e field (args_in e call) f)
other_compares e field f call other same own is = (
  ap refusal_of own.coerced,
  ap not is ∙ sym (ap (λ a. not (same_arguments (args_in e call) (if_coerced a))) own.coerced),
)

-- one that is written as a call doesn't differ from it
pub alike_compares : (e : Setting) (field : ℕ) (f : CollectedField) (calls : List Call) (at : ℕ) → All (IsKept e) calls → IsAlikeAt calls at field f
    → IfSome (slice_get calls at) (λ call. Compares (Ok false) (refused_in e field f) (differs_from e field (args_in e call) f))
alike_compares e field f calls at kept alike = there (slice_get calls at) (call_at e field f calls at kept alike)
  where
    there : (found : Option Call) → IsThereWith (IsCall e field f) found → IfSome found (λ call. Compares (Ok false) (refused_in e field f) (differs_from e field (args_in e call) f))
    there None own = tt
    there (Some call) own = other_compares e field f call call true own (sym (same_themselves (args_in e call)))

pub known_compares : (e : Setting) (field : ℕ) (f : CollectedField) (calls : List Call) (at place : ℕ) (same : Bool) → IsCallAt e calls place field f → AreSameAt e calls at place same
    → IfSome (slice_get calls at) (λ call. Compares (Ok (not same)) (refused_in e field f) (differs_from e field (args_in e call) f))
known_compares e field f calls at place same = first (slice_get calls at)
  where
    second : (call : Call) (found : Option Call) → IsThereWith (IsCall e field f) found → IfSome found (λ other. same ≡ same_calls e call other) → Compares (Ok (not same)) (refused_in e field f) (differs_from e field (args_in e call) f)
    second call None own is = absurd own
    second call (Some other) own is = other_compares e field f call other same own is

    first : (found : Option Call) → IsThereWith (IsCall e field f) (slice_get calls place) → IfSome found (λ call. IfSome (slice_get calls place) (λ other. same ≡ same_calls e call other))
        → IfSome found (λ call. Compares (Ok (not same)) (refused_in e field f) (differs_from e field (args_in e call) f))
    first None own is = tt
    first (Some call) own is = second call (slice_get calls place) own is

-- ---- arguments that are built

-- of arguments that are coerced nothing is told
coerced_untold : (told : Option Refusal) (answer : Result (List ArgData) Refusal) (args : List ArgData) → answer ≡ Ok args → IsTold told answer → told ≡ None
coerced_untold None answer args is h = refl
coerced_untold (Some refusal) answer args is h = absurd (no_both (sym is ∙ h))
  where
    no_both : ◌≡◌ {A = Result (List ArgData) Refusal} (Ok args) (Err refusal) → ⊥
    no_both h = cc

pub built_gives : (e : Setting) (calls : List Call) (at : ℕ) (call : Call) (result : Result Args ArgFault) → at < length calls → call ≡ get_or calls at call → All (IsKept e) calls → AnswersRefusal args_data argument_told result (coerced_of e call.of.number (collected_field call.field)) → GivesAt e calls at result
built_gives e calls at call (Ok args) within is kept h = there_at (λ c. coerced_of e c.of.number (collected_field c.field) ≡ Ok (args_data args)) calls at call within is h
built_gives e calls at call (Err fault) within is kept h =
    let own : IsKept e call = subst (IsKept e) (sym is) (kept at call within) in
    coerced_untold (argument_told fault) (coerced_of e call.of.number (collected_field call.field)) (args_in e call) own.coerced h

-- what was built is so where one call more stands
pub built_more : (e : Setting) (made now : List Call) (call : Call) (built : Option BuiltAt) → now ≡ made ++ call ∷ [] → IfSome built (IsBuiltAt e made) → IfSome built (IsBuiltAt e now)
built_more e made now call None is h = tt
built_more e made now call (Some b) is h =
    subst (λ (cs : List Call). GivesAt e cs b.at (Ok b.args)) (sym is) (subst (IsThereWith (λ c. coerced_of e c.of.number (collected_field c.field) ≡ Ok (args_data b.args))) (sym (still_there (λ c. coerced_of e c.of.number (collected_field c.field) ≡ Ok (args_data b.args)) made (call ∷ []) b.at h)) h)

-- what was built last is that of a call at its place
pub built_there : (e : Setting) (calls : List Call) (built : Option BuiltAt) (b : BuiltAt) (at : ℕ) → built ≡ Some b → b.at ≡ at → IfSome built (IsBuiltAt e calls) → GivesAt e calls at (Ok b.args)
built_there e calls built b at is same h = subst (λ (n : ℕ). GivesAt e calls n (Ok b.args)) same (subst (λ (o : Option BuiltAt). IfSome o (IsBuiltAt e calls)) is h)

-- ---- a field that is compared with the call at a place

pub gives_compares : (e : Setting) (calls : List Call) (at field : ℕ) (f : CollectedField) (args : Args) (result : Result Bool ArgFault) → GivesAt e calls at (Ok args) → ComparesArgs e (args_data args) field f result → ComparesField e calls at field f result
gives_compares e calls at field f args result gives compares = there (slice_get calls at) gives
  where
    there : (found : Option Call) → IsThereWith (λ c. coerced_of e c.of.number (collected_field c.field) ≡ Ok (args_data args)) found → IfSome found (λ c. ComparesArgs e (args_in e c) field f result)
    there None h = tt
    there (Some c) h = subst (λ (as_built : List ArgData). ComparesArgs e as_built field f result) (sym (ap if_coerced h)) compares

pub seen_compares : (e : Setting) (calls : List Call) (at field : ℕ) (f : CollectedField) → IsSameField e calls at field f → ComparesField e calls at field f (Ok true)
seen_compares e calls at field f same = there (slice_get calls at) same
  where
    there : (found : Option Call) → IfSome found (λ c. same_arguments (args_in e c) (args_given e field f) ≡ true) → IfSome found (λ c. ComparesArgs e (args_in e c) field f (Ok true))
    there None h = tt
    there (Some c) h = sym h

pub untold_field : (e : Setting) (calls : List Call) (at field : ℕ) (f : CollectedField) (fault : ArgFault) → argument_told fault ≡ None → ComparesField e calls at field f (Err fault)
untold_field e calls at field f fault untold = there (slice_get calls at)
  where
    there : (found : Option Call) → IfSome found (λ c. ComparesArgs e (args_in e c) field f (Err fault))
    there None = tt
    there (Some c) = λ coerced. untold

-- of a call at another place
pub field_places : (e : Setting) (calls : List Call) (at place : ℕ) (other : Call) (result : Result Bool ArgFault) → at < length calls → place < length calls → other ≡ get_or calls place other → All (IsKept e) calls
    → ComparesField e calls at other.of.number (collected_field other.field) result → ComparesPlaces e calls at place result
field_places e calls at place other (Ok same) within within_too is kept compares = there (slice_get calls at) compares
  where
    there : (found : Option Call) → IfSome found (λ c. same ≡ same_arguments (args_in e c) (args_given e other.of.number (collected_field other.field))) → IfSome found (λ c. IfSome (slice_get calls place) (λ o. same ≡ same_calls e c o))
    there None h = tt
    there (Some c) h = subst (λ (found : Option Call). IfSome found (λ o. same ≡ same_calls e c o)) (sym (slice_get_read calls (length calls) place other refl within_too is)) h
field_places e calls at place other (Err fault) within within_too is kept compares =
    let here = call_there calls at within in
    let own : IsKept e other = subst (IsKept e) (sym is) (kept place other within_too) in
    subst (λ (found : Option Call). IfSome found (λ c. ComparesArgs e (args_in e c) other.of.number (collected_field other.field) (Err fault))) here.1 compares own.coerced

-- so nothing is said of what differs
pub untold_compares : (e : Setting) (field : ℕ) (f : CollectedField) (calls : List Call) (at : ℕ) (fault : ArgFault) → argument_told fault ≡ None
    → IfSome (slice_get calls at) (λ call. Compares (Err fault) (refused_in e field f) (differs_from e field (args_in e call) f))
untold_compares e field f calls at fault untold = at_found (slice_get calls at)
  where
    at_found : (found : Option Call) → IfSome found (λ call. Compares (Err fault) (refused_in e field f) (differs_from e field (args_in e call) f))
    at_found None = tt
    at_found (Some call) = subst (λ (told : Option Refusal). IsThere told (refused_in e field f)) (sym untold) tt

-- of a field whose call was made
module _ (e : Setting) (field : ℕ) (f : CollectedField) (call : Call) (own : IsCall e field f call) where
  given_own : args_given e field f ≡ args_in e call
  given_own = ap if_coerced own.coerced

  pub own_coerced : coerced_of e field f ≡ Ok (args_given e field f)
  own_coerced = own.coerced ∙ ap Ok (sym given_own)

  pub field_differs : (calls : List Call) (at : ℕ) (same : Bool) → ComparesField e calls at field f (Ok same) → IfSome (slice_get calls at) (λ c. Compares (Ok (not same)) (refused_in e field f) (differs_from e field (args_in e c) f))
  field_differs calls at same compares = there (slice_get calls at) compares
    where
      there : (found : Option Call) → IfSome found (λ c. same ≡ same_arguments (args_in e c) (args_given e field f)) → IfSome found (λ c. Compares (Ok (not same)) (refused_in e field f) (differs_from e field (args_in e c) f))
      there None h = tt
      there (Some c) h = (ap refusal_of own.coerced, ap not h)

  pub field_untold : (calls : List Call) (at : ℕ) (fault : ArgFault) → at < length calls → ComparesField e calls at field f (Err fault) → argument_told fault ≡ None
  field_untold calls at fault within compares =
      let here = call_there calls at within in
      subst (λ (found : Option Call). IfSome found (λ c. ComparesArgs e (args_in e c) field f (Err fault))) here.1 compares own_coerced

  pub field_same : (calls : List Call) (at : ℕ) → at < length calls → ComparesField e calls at field f (Ok true) → IsSameAsAt e calls at call
  field_same calls at within compares =
      let here = call_there calls at within in
      let same : true ≡ same_arguments (args_in e here.0) (args_given e field f) = subst (λ (found : Option Call). IfSome found (λ c. true ≡ same_arguments (args_in e c) (args_given e field f))) here.1 compares in
      subst (IsThereWith (λ c. same_calls e c call ≡ true)) (sym here.1) (ap (same_arguments (args_in e here.0)) (sym given_own) ∙ sym same)

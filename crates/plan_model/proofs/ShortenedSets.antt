-- Shortened selections come to the same nodes, the same faults and the same plan, and are acyclic where the others are.
use Rattle.std.proofs.Common.{◌≡◌, inl, inr, ⊎_elim, ℕ, zero, suc, ◌+◌, ◌<◌, List, [], ◌∷◌, ◌++◌, map, length, Bool, true, false, bytes_eq, Option, Some, None, refl, sym, ap, ◌∙◌, subst, if◌then◌else◌}
use Rattle.std.proofs.lemmas.Bool.{cases_Bool}
use Rattle.std.proofs.lemmas.Option.{none-some, same_Some}
use Rattle.gql_base.specs.ways.Reading.{Identifier}
use Rattle.gql_base.specs.names.Names.{first_of_name}
use Rattle.document_reader.specs.Documents.{SelectionTree, field_selection, fragment_spread, inline_fragment, SelectionTrees, no_selection, selection_then}
use Rattle.input_values.specs.coercion.Literals.{Environment}
use Rattle.schema_model.specs.SchemaData.{SchemaData}
use Rattle.document_rules.specs.Parts.{FragmentData, fragment_name}
use Rattle.document_rules.specs.Sites.{name_of_field, below_inline, composite_named, below_field, meaning_on}
use Rattle.plan_model.specs.SelectedFields.{Setting, FieldCall, Place, written_below, is_asked}
use Rattle.plan_model.specs.Collecting.{is_included, applies_by_name, applies_if_named, fragment_named, CollectedField, WrittenSelections, fields_of, fields_in, fields_written, fields_entered, fields_spread, nesting}
use Rattle.plan_model.specs.Merging.{selections_below}
use Rattle.plan_model.specs.MergingWalk.{OneRanked, AreRanked, AllRanked, IsAcyclic}
use Rattle.plan_model.specs.Visits.{visits, planned}
use Rattle.plan_model.specs.Likeness.{HasLike, Thins, LooksSame}
use Rattle.plan_model.specs.Numberings.{HasMark, IsItem}
use Rattle.plan_model.specs.Shortening.{IsSameType, HasSelection, Shortens, GoesBeside, Keeps, AreShortened, IsShortenedFragment, AreShortenedFragments, with_fragments, position_on, IsShorter}
use Rattle.plan_model.proofs.Thinning.{Each}
use Rattle.plan_model.proofs.LikeLists.{like_in_front, like_behind, each_in_more, each_has_like, leave_first, stay_first, seen_like, all_like}
use Rattle.plan_model.proofs.MarkedNodes.{same_visits_marked, same_plan_marked}

-- ---- what the name of a field and that of a type say

same_written : (s : SchemaData) (parent : Option ℕ) (c d : FieldCall) → c.name ≡ d.name → written_below s parent c ≡ written_below s parent d
unfolding written_below
same_written s parent c d name = ap (λ (n : List ℕ). below_field s (meaning_on s parent n)) name

same_asked : (s : SchemaData) (parent : Option ℕ) (c d : FieldCall) → c.name ≡ d.name → is_asked s parent c ≡ is_asked s parent d
unfolding is_asked
same_asked s parent c d name = rw (same_written s parent c d name) refl

same_applies : (s : SchemaData) (T : ℕ) (on other : Option Identifier) → IsSameType on other → applies_if_named s T on ≡ applies_if_named s T other
same_applies s T None None is = refl
same_applies s T None (Some b) is = absurd is
same_applies s T (Some a) None is = absurd is
same_applies s T (Some a) (Some b) is = ap (applies_by_name s T) is

same_inside : (s : SchemaData) (parent : Option ℕ) (on other : Option Identifier) → IsSameType on other → below_inline s parent on ≡ below_inline s parent other
same_inside s None on other is = refl
same_inside s (Some p) None None is = refl
same_inside s (Some p) None (Some b) is = absurd is
same_inside s (Some p) (Some a) None is = absurd is
same_inside s (Some p) (Some a) (Some b) is = ap (λ (n : List ℕ). composite_named s n) is

-- ---- selections without directives stay

plain_stays : (values : Environment) (s t : SelectionTree) → Shortens values s t → is_included values t ≡ true
unfolding is_included
plain_stays values (field_selection names arguments directives below) (field_selection others given marks inside) h = rw (h.1.0) refl
plain_stays values (field_selection names arguments directives below) (fragment_spread other marks) h = absurd h
plain_stays values (field_selection names arguments directives below) (inline_fragment other marks inside) h = absurd h
plain_stays values (fragment_spread name directives) (field_selection others given marks inside) h = absurd h
plain_stays values (fragment_spread name directives) (fragment_spread other marks) h = rw (h.1) refl
plain_stays values (fragment_spread name directives) (inline_fragment other marks inside) h = absurd h
plain_stays values (inline_fragment on directives below) (field_selection others given marks inside) h = absurd h
plain_stays values (inline_fragment on directives below) (fragment_spread other marks) h = absurd h
plain_stays values (inline_fragment on directives below) (inline_fragment other marks inside) h = rw (h.1.0) refl

-- ---- the fields of shortened selections

-- `P` says how the selections below two fields go together.
module _ (e : Setting) (fragments : List FragmentData) (T : ℕ) (P : WrittenSelections → WrittenSelections → Type 0)
    (below_too : (parent : Option ℕ) (ss ts : SelectionTrees) → AreShortened e.values ss ts → P (parent, ss) (parent, ts)) where
  abbrev d : Setting
  d = with_fragments e fragments

  abbrev IsLike : CollectedField → CollectedField → Type 0
  IsLike f g = LooksSame e f g × P (selections_below e f) (selections_below e g)

  where_both : (b : Bool) (xs ys : List CollectedField) → Thins IsLike [] xs ys → Thins IsLike [] (if b then xs else []) (if b then ys else [])
  where_both true xs ys t = t
  where_both false xs ys t = tt

  where_each : (b : Bool) (seen xs : List CollectedField) → Each (HasLike IsLike seen) xs → Each (HasLike IsLike seen) (if b then xs else [])
  where_each true seen xs all = all
  where_each false seen xs all = tt

  module _ (given others : List ℕ → List CollectedField) (spreads : (name : List ℕ) → Thins IsLike [] (given name) (others name)) where
    abbrev in_other : Option ℕ → SelectionTrees → List CollectedField
    in_other parent ts = fields_in d T others parent ts

    abbrev first_with : Option ℕ → SelectionTree → SelectionTrees → Bool → List CollectedField
    first_with parent t ts b = (if b then fields_of d T others parent t else []) ++ in_other parent ts

    -- all fields of a selection for which one that was kept serves
    served_like : (parent : Option ℕ) (kept : SelectionTrees) (s : SelectionTree) → ((t : SelectionTree) → Shortens e.values s t → Thins IsLike [] (fields_of e T given parent s) (fields_of d T others parent t)) → HasSelection (λ t. Shortens e.values s t) kept
        → Each (HasLike IsLike (in_other parent kept)) (fields_of e T given parent s)
    served_like parent no_selection s like h = absurd h
    served_like parent (selection_then t kept) s like (inl is) =
        subst (λ (b : Bool). Each (HasLike IsLike (first_with parent t kept b)) (fields_of e T given parent s)) (sym (plain_stays e.values s t is))
        (each_in_more IsLike (fields_of d T others parent t) (fields_of d T others parent t ++ in_other parent kept) (fields_of e T given parent s) (like_in_front IsLike (fields_of d T others parent t) (in_other parent kept))
        (each_has_like IsLike [] (fields_of e T given parent s) (fields_of d T others parent t) (like t is)))
    served_like parent (selection_then t kept) s like (inr later) =
        each_in_more IsLike (in_other parent kept) (first_with parent t kept (is_included e.values t)) (fields_of e T given parent s) (like_behind IsLike (if is_included e.values t then fields_of d T others parent t else []) (in_other parent kept)) (served_like parent kept s like later)

    gone_like : (parent : Option ℕ) (kept : SelectionTrees) (s : SelectionTree) → ((t : SelectionTree) → Shortens e.values s t → Thins IsLike [] (fields_of e T given parent s) (fields_of d T others parent t)) → GoesBeside e.values kept s (λ t. Shortens e.values s t)
        → Each (HasLike IsLike (in_other parent kept)) (if is_included e.values s then fields_of e T given parent s else [])
    gone_like parent kept s like (inl out) = subst (λ (b : Bool). Each (HasLike IsLike (in_other parent kept)) (if b then fields_of e T given parent s else [])) (sym out) tt
    gone_like parent kept s like (inr serves) = where_each (is_included e.values s) (in_other parent kept) (fields_of e T given parent s) (served_like parent kept s like serves)

    mutual
      one_like : (parent : Option ℕ) (s t : SelectionTree) → Shortens e.values s t → Thins IsLike [] (fields_of e T given parent s) (fields_of d T others parent t)
      one_like parent (field_selection names arguments directives below) (field_selection names' arguments' marks inside) h =
          let c : FieldCall = record { name = (name_of_field names).0; arguments = arguments } in
          let c' : FieldCall = record { name = (name_of_field names').0; arguments = arguments' } in
          inl (
            (
              record { key = h.0.0.0; name = h.0.0.1; given = h.0.1; asked = same_asked e.schema parent c c' h.0.0.1 },
              subst (λ (o : Option ℕ). P (written_below e.schema parent c, below) (o, inside)) (same_written e.schema parent c c' h.0.0.1) (below_too (written_below e.schema parent c) below inside h.1.1),
            ),
            tt,
          )
      one_like parent (field_selection names arguments directives below) (fragment_spread other marks) h = absurd h
      one_like parent (field_selection names arguments directives below) (inline_fragment other marks inside) h = absurd h
      one_like parent (fragment_spread name directives) (field_selection names arguments marks inside) h = absurd h
      one_like parent (fragment_spread name directives) (fragment_spread other marks) h = subst (λ (n : List ℕ). Thins IsLike [] (given name.0) (others n)) h.0 (spreads name.0)
      one_like parent (fragment_spread name directives) (inline_fragment other marks inside) h = absurd h
      one_like parent (inline_fragment on directives below) (field_selection names arguments marks inside) h = absurd h
      one_like parent (inline_fragment on directives below) (fragment_spread other marks) h = absurd h
      one_like parent (inline_fragment on directives below) (inline_fragment other marks inside) h =
          let b : Bool = applies_if_named e.schema T on in
          let xs : List CollectedField = fields_in e T given (below_inline e.schema parent on) below in
          subst (λ (u : Bool). Thins IsLike [] (if b then xs else []) (if u then in_other (below_inline e.schema parent other) inside else [])) (same_applies e.schema T on other h.0)
          (subst (λ (o : Option ℕ). Thins IsLike [] (if b then xs else []) (if b then in_other o inside else [])) (same_inside e.schema parent on other h.0)
          (where_both b xs (in_other (below_inline e.schema parent on) inside) (all_in_like (below_inline e.schema parent on) no_selection below inside h.1.1)))

      all_in_like : (parent : Option ℕ) (kept ss ts : SelectionTrees) → Keeps e.values kept ss ts → Thins IsLike (in_other parent kept) (fields_in e T given parent ss) (in_other parent ts)
      all_in_like parent kept no_selection no_selection h = tt
      all_in_like parent kept no_selection (selection_then t ts) h = absurd h
      all_in_like parent kept (selection_then s ss) no_selection h = leave_first IsLike (in_other parent kept) (if is_included e.values s then fields_of e T given parent s else []) (fields_in e T given parent ss) [] (gone_like parent kept s (λ t is. one_like parent s t is) h.0) (all_in_like parent kept ss no_selection h.1)
      all_in_like parent kept (selection_then s ss) (selection_then t ts) (inl stays) =
          let plain : is_included e.values t ≡ true = plain_stays e.values s t stays.0.1 in
          let more : Thins IsLike (first_with parent t kept (is_included e.values t)) (fields_in e T given parent ss) (in_other parent ts) = all_in_like parent (selection_then t kept) ss ts stays.1 in
          subst (λ (b : Bool). Thins IsLike (in_other parent kept) ((if b then fields_of e T given parent s else []) ++ fields_in e T given parent ss) (first_with parent t ts (is_included e.values t))) (sym stays.0.0)
          (subst (λ (b : Bool). Thins IsLike (in_other parent kept) (fields_of e T given parent s ++ fields_in e T given parent ss) (first_with parent t ts b)) (sym plain)
          (stay_first IsLike (in_other parent kept) (fields_of e T given parent s) (fields_of d T others parent t) (fields_in e T given parent ss) (in_other parent ts) (one_like parent s t stays.0.1)
          (subst (λ (b : Bool). Thins IsLike (first_with parent t kept b) (fields_in e T given parent ss) (in_other parent ts)) plain more)))
      all_in_like parent kept (selection_then s ss) (selection_then t ts) (inr goes) =
          leave_first IsLike (in_other parent kept) (if is_included e.values s then fields_of e T given parent s else []) (fields_in e T given parent ss) (in_other parent (selection_then t ts)) (gone_like parent kept s (λ u is. one_like parent s u is) goes.0) (all_in_like parent kept ss (selection_then t ts) goes.1)

-- ---- fragments

abbrev IsSameFragment : Environment → Option FragmentData → Option FragmentData → Type 0
IsSameFragment values None None = Unit {0}
IsSameFragment values None (Some g) = ⊥
IsSameFragment values (Some f) None = ⊥
IsSameFragment values (Some f) (Some g) = IsShortenedFragment values f g

first_same : (values : Environment) (name : List ℕ) (fs gs : List FragmentData) → AreShortenedFragments values fs gs → IsSameFragment values (first_of_name fragment_name fs name) (first_of_name fragment_name gs name)
first_same values name [] [] h = tt
first_same values name [] (g ∷ gs) h = absurd h
first_same values name (f ∷ fs) [] h = absurd h
first_same values name (f ∷ fs) (g ∷ gs) h = ⊎_elim
    (λ (is : bytes_eq (fragment_name g) name ≡ true). rw (ap (λ (n : List ℕ). bytes_eq n name) h.0.0.0 ∙ is) (rw (is) h.0))
    (λ (is : bytes_eq (fragment_name g) name ≡ false). rw (ap (λ (n : List ℕ). bytes_eq n name) h.0.0.0 ∙ is) (rw (is) (first_same values name fs gs h.1)))
    (cases_Bool (bytes_eq (fragment_name g) name))

same_count : (values : Environment) (fs gs : List FragmentData) → AreShortenedFragments values fs gs → length gs ≡ length fs
same_count values [] [] h = refl
same_count values [] (g ∷ gs) h = absurd h
same_count values (f ∷ fs) [] h = absurd h
same_count values (f ∷ fs) (g ∷ gs) h = ap suc (same_count values fs gs h.1)

-- the fragment of which this one is the shortened one
found_whole : (values : Environment) (o u : Option FragmentData) (g : FragmentData) → IsSameFragment values o u → u ≡ Some g → (f : FragmentData) × ((o ≡ Some f) × IsShortenedFragment values f g)
found_whole values None None g h is = absurd (none-some g is)
found_whole values None (Some u) g h is = absurd h
found_whole values (Some f) None g h is = absurd h
found_whole values (Some f) (Some u) g h is = (f, (refl, subst (λ (x : FragmentData). IsShortenedFragment values f x) (same_Some u g is) h))

module _ (e : Setting) (fragments : List FragmentData) (shorter : AreShortenedFragments e.values e.fragments fragments) where
  abbrev short : Setting
  short = with_fragments e fragments

  named_too : (name : List ℕ) → IsSameFragment e.values (fragment_named e name) (fragment_named short name)
  unfolding fragment_named
  named_too name = first_same e.values name e.fragments fragments shorter

  nests_as_deep : nesting short ≡ nesting e
  nests_as_deep = ap (λ n. n + 2) (same_count e.values e.fragments fragments shorter)

  module _ (T : ℕ) (P : WrittenSelections → WrittenSelections → Type 0) (below_too : (parent : Option ℕ) (ss ts : SelectionTrees) → AreShortened e.values ss ts → P (parent, ss) (parent, ts)) where
    entered_like : (given others : List ℕ → List CollectedField) (o u : Option FragmentData) → ((name : List ℕ) → Thins (IsLike e fragments T P below_too) [] (given name) (others name)) → IsSameFragment e.values o u
        → Thins (IsLike e fragments T P below_too) [] (fields_entered e T given o) (fields_entered short T others u)
    entered_like given others None None spreads h = tt
    entered_like given others None (Some g) spreads h = absurd h
    entered_like given others (Some f) None spreads h = absurd h
    entered_like given others (Some f) (Some g) spreads h =
        let on : Option ℕ = composite_named e.schema f.on.0 in
        subst (λ (n : List ℕ). Thins (IsLike e fragments T P below_too) [] (fields_entered e T given (Some f)) (if applies_by_name e.schema T n then fields_in short T others (composite_named e.schema n) g.below else [])) h.0.1
        (where_both e fragments T P below_too (applies_by_name e.schema T f.on.0) (fields_in e T given on f.below) (fields_in short T others on g.below) (all_in_like e fragments T P below_too given others spreads on no_selection f.below g.below h.1))

    spread_like : (depth : ℕ) (name : List ℕ) → Thins (IsLike e fragments T P below_too) [] (fields_spread e T depth name) (fields_spread short T depth name)
    unfolding fields_spread
    spread_like zero name = tt
    spread_like (suc depth) name = entered_like (fields_spread e T depth) (fields_spread short T depth) (fragment_named e name) (fragment_named short name) (spread_like depth) (named_too name)

    -- at any depth the same
    written_like : (depth : ℕ) (parent : Option ℕ) (ss ts : SelectionTrees) → AreShortened e.values ss ts → Thins (IsLike e fragments T P below_too) [] (fields_written e T (fields_spread e T depth) (parent, ss)) (fields_written short T (fields_spread short T depth) (parent, ts))
    written_like depth parent ss ts h = all_in_like e fragments T P below_too (fields_spread e T depth) (fields_spread short T depth) (spread_like depth) parent no_selection ss ts h

  -- ---- the shortened selections as marks of both

  abbrev with_below : CollectedField → CollectedField × WrittenSelections
  with_below g = (g, selections_below e g)

  abbrev short_items : WrittenSelections → ℕ → List (CollectedField × WrittenSelections)
  short_items w T = map with_below (fields_written short T (fields_spread short T (nesting short)) w)

  whole_marked : (n : ℕ) (parent : Option ℕ) (ss ts : SelectionTrees) → AreShortened e.values ss ts → HasMark e short_items n (parent, ss) (parent, ts)
  whole_marked zero parent ss ts h = tt
  whole_marked (suc n) parent ss ts h = λ T.
      let R : CollectedField → CollectedField → Type 0 = IsLike e fragments T (HasMark e short_items n) (whole_marked n) in
      let xs : List CollectedField = fields_written e T (fields_spread e T (nesting e)) (parent, ss) in
      seen_like R (IsItem e short_items n) with_below (λ f g r. r) xs (fields_written short T (fields_spread short T (nesting short)) (parent, ts))
      (subst (λ (m : ℕ). Thins R [] xs (fields_written short T (fields_spread short T m) (parent, ts))) (sym nests_as_deep) (written_like T (HasMark e short_items n) (whole_marked n) (nesting e) parent ss ts h))

  like_itself : (g : CollectedField) → LooksSame short g g
  like_itself g = record { key = refl; name = refl; given = refl; asked = refl }

  short_marked : (n : ℕ) (w : WrittenSelections) → HasMark short short_items n w w
  short_marked zero w = tt
  short_marked (suc n) w = λ T. all_like (IsItem short short_items n) with_below (λ g. (like_itself g, short_marked n (selections_below e g))) [] (fields_written short T (fields_spread short T (nesting short)) w)

  module _ (root : ℕ) (ss ts : SelectionTrees) (h : AreShortened e.values ss ts) where
    pub same_visits_shortened : (levels : ℕ) (Ts : List ℕ) → visits e levels Ts (position_on root ss) ≡ visits short levels Ts (position_on root ts)
    same_visits_shortened levels Ts = same_visits_marked e fragments short_items levels (position_on root ss) (position_on root ts) ((Some root, ts) ∷ [])
        (inl (whole_marked (suc levels) (Some root) ss ts h, tt)) (inl (short_marked (suc levels) (Some root, ts), tt)) refl Ts

    pub same_plan_shortened : (levels : ℕ) (place : Place) → planned e levels place (position_on root ss) ≡ planned short levels place (position_on root ts)
    same_plan_shortened levels place = same_plan_marked e fragments short_items levels (position_on root ss) (position_on root ts) ((Some root, ts) ∷ [])
        (inl (whole_marked (suc levels) (Some root) ss ts h, tt)) (inl (short_marked (suc levels) (Some root, ts), tt)) refl place

-- ---- ranks

module _ (values : Environment) (rank : List ℕ → ℕ) (bound : ℕ) where
  mutual
    one_ranked : (s t : SelectionTree) → Shortens values s t → OneRanked rank bound s → OneRanked rank bound t
    one_ranked (field_selection names arguments directives below) (field_selection names' arguments' marks inside) h r = all_ranked no_selection below inside h.1.1 r
    one_ranked (field_selection names arguments directives below) (fragment_spread other marks) h r = absurd h
    one_ranked (field_selection names arguments directives below) (inline_fragment other marks inside) h r = absurd h
    one_ranked (fragment_spread name directives) (field_selection names' arguments' marks inside) h r = absurd h
    one_ranked (fragment_spread name directives) (fragment_spread other marks) h r = subst (λ (n : List ℕ). rank n < bound) h.0 r
    one_ranked (fragment_spread name directives) (inline_fragment other marks inside) h r = absurd h
    one_ranked (inline_fragment on directives below) (field_selection names' arguments' marks inside) h r = absurd h
    one_ranked (inline_fragment on directives below) (fragment_spread other marks) h r = absurd h
    one_ranked (inline_fragment on directives below) (inline_fragment other marks inside) h r = all_ranked no_selection below inside h.1.1 r

    all_ranked : (kept ss ts : SelectionTrees) → Keeps values kept ss ts → AreRanked rank bound ss → AreRanked rank bound ts
    all_ranked kept no_selection no_selection h r = tt
    all_ranked kept no_selection (selection_then t ts) h r = absurd h
    all_ranked kept (selection_then s ss) no_selection h r = tt
    all_ranked kept (selection_then s ss) (selection_then t ts) (inl stays) r = (one_ranked s t stays.0.1 r.0, all_ranked (selection_then t kept) ss ts stays.1 r.1)
    all_ranked kept (selection_then s ss) (selection_then t ts) (inr goes) r = all_ranked kept ss (selection_then t ts) goes.1 r.1

pub shorter_is_acyclic : (e : Setting) (root : ℕ) (ss ts : SelectionTrees) (fragments : List FragmentData) → IsShorter e ss fragments ts → IsAcyclic e (position_on root ss) → IsAcyclic (with_fragments e fragments) (position_on root ts)
shorter_is_acyclic e root ss ts fragments shorter acyclic = record {
  rank = acyclic.rank;
  fragments = λ name g is.
      let whole = found_whole e.values (fragment_named e name) (fragment_named (with_fragments e fragments) name) g (named_too e fragments shorter.inside name) is in
      all_ranked e.values acyclic.rank (acyclic.rank name) no_selection whole.0.below g.below whole.1.1.1 (acyclic.fragments name whole.0 whole.1.0);
  spreads = subst (λ (m : ℕ). AllRanked acyclic.rank m ((Some root, ts) ∷ [])) (sym (nests_as_deep e fragments shorter.inside))
      (all_ranked e.values acyclic.rank (nesting e) no_selection ss ts shorter.below acyclic.spreads.0, tt);
}

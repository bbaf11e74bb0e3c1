-- Selections that stand where objects of a type may: each of their fields is one that the object's own type has.
use Rattle.std.proofs.Common.{◌≡◌, ◌⊎◌, inl, inr, ⊎_elim, ℕ, zero, suc, List, [], ◌∷◌, Bool, true, false, not, true≢false, ◌&&◌, eqb-true, bytes_eq, Option, Some, None, refl, sym, ap, ◌∙◌, subst}
use Rattle.std.specs.Prelude.{find, if◌then◌else◌}
use Rattle.std.proofs.lemmas.Bool.{cases_Bool}
use Rattle.std.proofs.lemmas.Option.{none-some}
use Rattle.document_reader.specs.Documents.{SelectionTree, field_selection, fragment_spread, inline_fragment, SelectionTrees, no_selection, selection_then}
use Rattle.schema_rules.specs.declared.kind.Kind.{Kind}
use Rattle.schema_rules.specs.declared.kind.Kind.TheVariants.{Scalar, Object, Interface, Union, Enum, Input}
use Rattle.schema_rules.specs.Kinds.{is_object, is_output_only}
use Rattle.schema_model.specs.SchemaData.{TypeData, SchemaData, type_at, type_named, field_named, applies_to, applies, possible}
use Rattle.document_rules.specs.Parts.{FragmentData, fragment_name}
use Rattle.document_rules.specs.Sites.{name_of_field, is_composite, when_composite, composite_named, meaning_on, below_field, below_inline}
use Rattle.document_rules.specs.Rules.{is_no_such_field}
use Rattle.plan_model.specs.SelectedFields.{Setting, is_abstract}
use Rattle.plan_model.specs.Collecting.{is_included, applies_where, applies_by_name, fragment_named, nesting, CollectedField, WrittenSelections, fields_of, fields_in, fields_written, fields_entered, fields_spread, collected_to, collected}
use Rattle.plan_model.specs.Merging.{Position, fields_of_key, fields_at, fields_under}
use Rattle.stripped_responses.proofs.RewrittenFields.{Each, each_append, each_where}
use Rattle.sent_replies.specs.Interfaces.{Implements, IsNarrower, HasField, KeepsInterfaces}
use Rattle.sent_replies.proofs.PossibleTypes.{HasNoSecond, object_alone}

module _ (s : SchemaData) where
  -- ---- fields that are known

  abbrev mutual
    pub IsKnownIn : Option ℕ → SelectionTree → Type 0
    IsKnownIn parent (field_selection names arguments directives below) =
        (is_no_such_field (meaning_on s parent (name_of_field names).0) ≡ false) × AreKnownIn (below_field s (meaning_on s parent (name_of_field names).0)) below
    IsKnownIn parent (fragment_spread name directives) = Unit {0}
    IsKnownIn parent (inline_fragment on directives below) = AreKnownIn (below_inline s parent on) below

    pub AreKnownIn : Option ℕ → SelectionTrees → Type 0
    AreKnownIn parent no_selection = Unit {0}
    AreKnownIn parent (selection_then x others) = IsKnownIn parent x × AreKnownIn parent others

  abbrev pub FragmentsKnown : List FragmentData → Type 0
  FragmentsKnown [] = Unit {0}
  FragmentsKnown (f ∷ fs) = AreKnownIn (composite_named s f.on.0) f.below × FragmentsKnown fs

  -- ---- a type on which fields of objects of a type may be written

  abbrev pub StandsOn : ℕ → ℕ → Type 0
  StandsOn T P = (P ≡ T) ⊎ (Implements s T P ⊎ ((name : List ℕ) → field_named s P name ≡ None))

  -- selections that are written on such a type
  abbrev pub StandAt : ℕ → WrittenSelections → Type 0
  StandAt T v = (P : ℕ) × (v.0 ≡ Some P) × StandsOn T P × AreKnownIn v.0 v.1

  abbrev pub AllStandAt : ℕ → List WrittenSelections → Type 0
  AllStandAt T ws = Each (StandAt T) ws

  -- a field that is written on such a type and known there
  abbrev pub FieldStands : ℕ → CollectedField → Type 0
  FieldStands T f =
      (P : ℕ) × (f.parent ≡ Some P) × StandsOn T P × (is_no_such_field (meaning_on s f.parent f.call.name) ≡ false) × AreKnownIn (below_field s (meaning_on s f.parent f.call.name)) f.below

  composite_applies : (kind : Kind) (c o : ℕ) (condition object : TypeData) → applies_to kind c o condition object ≡ true → is_output_only kind ≡ true
  composite_applies Object c o condition object is = refl
  composite_applies Interface c o condition object is = refl
  composite_applies Union c o condition object is = refl
  composite_applies Scalar c o condition object is = absurd (true≢false (sym is))
  composite_applies Enum c o condition object is = absurd (true≢false (sym is))
  composite_applies Input c o condition object is = absurd (true≢false (sym is))

  -- a fragment that applies is written on a composite type
  named_applies : (T : ℕ) (on : List ℕ) → applies_by_name s T on ≡ true → (c : ℕ) × (composite_named s on ≡ Some c) × (applies s c T ≡ true)
  unfolding applies_by_name
  named_applies T on is = by_type (type_named s on) refl is
    where
      by_type : (o : Option ℕ) → type_named s on ≡ o → applies_where s T o ≡ true → (c : ℕ) × (composite_named s on ≡ Some c) × (applies s c T ≡ true)
      by_type None named is = absurd (true≢false (sym is))
      by_type (Some c) named is = (c, ap (when_composite s) named ∙ ap (λ (b : Bool). if b then Some c else None) (composite_applies (type_at s c).kind c T (type_at s c) (type_at s T) is), is)

  module _ (keeps : KeepsInterfaces s) where
    applied_stands : (T c : ℕ) (kind : Kind) → (type_at s c).kind ≡ kind → applies_to kind c T (type_at s c) (type_at s T) ≡ true → StandsOn T c
    applied_stands T c Object of is = inl (eqb-true c T is)
    applied_stands T c Interface of is = inr (inl is)
    applied_stands T c Union of is = inr (inr (λ name. keeps.unions_have_no_field c name of))
    applied_stands T c Scalar of is = absurd (true≢false (sym is))
    applied_stands T c Enum of is = absurd (true≢false (sym is))
    applied_stands T c Input of is = absurd (true≢false (sym is))

    pub stands_where_applies : (T c : ℕ) → applies s c T ≡ true → StandsOn T c
    stands_where_applies T c is = applied_stands T c (type_at s c).kind refl is

    -- objects of a narrower type stand on the wider one
    pub stands_wider : (U B A : ℕ) → IsNarrower s B A → applies s B U ≡ true → StandsOn U A
    stands_wider U B A (inl is) applied = subst (StandsOn U) is (stands_where_applies U B applied)
    stands_wider U B A (inr (inl implements)) applied = by_kind (type_at s B).kind refl applied
      where
        by_kind : (kind : Kind) → (type_at s B).kind ≡ kind → applies_to kind B U (type_at s B) (type_at s U) ≡ true → StandsOn U A
        by_kind Object of is = inr (inl (subst (λ (T : ℕ). Implements s T A) (eqb-true B U is) implements))
        by_kind Interface of is = inr (inl (keeps.interfaces_above U B A is implements))
        by_kind Union of is = absurd (keeps.unions_implement_none B A of implements)
        by_kind Scalar of is = absurd (true≢false (sym is))
        by_kind Enum of is = absurd (true≢false (sym is))
        by_kind Input of is = absurd (true≢false (sym is))
    stands_wider U B A (inr (inr member)) applied = inr (inr (λ name. keeps.unions_have_no_field A name (keeps.are_unions B A member)))

    -- a composite type's wider types are composite
    pub composite_wider : (B A : ℕ) → IsNarrower s B A → is_composite s B ≡ true → is_composite s A ≡ true
    composite_wider B A (inl is) composite = subst (λ (T : ℕ). is_composite s T ≡ true) is composite
    composite_wider B A (inr (inl implements)) composite = ap is_output_only (keeps.are_interfaces B A implements)
    composite_wider B A (inr (inr member)) composite = ap is_output_only (keeps.are_unions B A member)

    -- a type that is neither an interface nor a union has no narrower one
    kind_left : (kind : Kind) → is_output_only kind ≡ true → (is_output_only kind && not (is_object kind)) ≡ false → kind ≡ Object
    kind_left Object composite plain = refl
    kind_left Interface composite plain = absurd (true≢false plain)
    kind_left Union composite plain = absurd (true≢false plain)
    kind_left Scalar composite plain = absurd (true≢false (sym composite))
    kind_left Enum composite plain = absurd (true≢false (sym composite))
    kind_left Input composite plain = absurd (true≢false (sym composite))

    pub object_is_narrowest : (B A : ℕ) → IsNarrower s B A → is_composite s B ≡ true → is_abstract s (when_composite s (Some A)) ≡ false → HasNoSecond (possible s B)
    object_is_narrowest B A narrower composite plain = by_way narrower
      where
        here : is_abstract s (Some A) ≡ false
        here = sym (ap (λ (b : Bool). is_abstract s (if b then Some A else None)) (composite_wider B A narrower composite)) ∙ plain

        by_way : IsNarrower s B A → HasNoSecond (possible s B)
        by_way (inl is) = object_alone s B (ap (λ (T : ℕ). (type_at s T).kind) is ∙ kind_left (type_at s A).kind (composite_wider B A narrower composite) here)
        by_way (inr (inl implements)) = absurd (true≢false (sym (ap (λ (k : Kind). is_output_only k && not (is_object k)) (keeps.are_interfaces B A implements)) ∙ here))
        by_way (inr (inr member)) = absurd (true≢false (sym (ap (λ (k : Kind). is_output_only k && not (is_object k)) (keeps.are_unions B A member)) ∙ here))

    -- ---- a field at objects of the type

    -- a field that stands at objects of the type has there the narrower type
    pub own_field : (T P : ℕ) (name : List ℕ) (g : ℕ) → StandsOn T P → field_named s P name ≡ Some g → HasField s T name g
    own_field T P name g (inl is) found = (g, subst (λ (Q : ℕ). field_named s Q name ≡ Some g) is found, inl refl)
    own_field T P name g (inr (inl implements)) found = keeps.fields T P name g implements found
    own_field T P name g (inr (inr none)) found = absurd (none-some g (sym (none name) ∙ found))

-- ---- fields that are collected

module _ (e : Setting) (keeps : KeepsInterfaces e.schema) (T : ℕ) where
  abbrev GivesStanding : (List ℕ → List CollectedField) → Type 0
  GivesStanding g = (name : List ℕ) → Each (FieldStands e.schema T) (g name)

  -- what stands in a fragment, where it applies
  in_fragment : (g : List ℕ → List CollectedField) (on : List ℕ) (below : SelectionTrees) → ((c : ℕ) → StandsOn e.schema T c → AreKnownIn e.schema (Some c) below → Each (FieldStands e.schema T) (fields_in e T g (Some c) below))
      → AreKnownIn e.schema (composite_named e.schema on) below → Each (FieldStands e.schema T) (if applies_by_name e.schema T on then fields_in e T g (composite_named e.schema on) below else [])
  in_fragment g on below inside known = ⊎_elim
      (λ (is : applies_by_name e.schema T on ≡ true). rw (is) (
      let found = named_applies e.schema T on is in
      subst (λ (parent : Option ℕ). AreKnownIn e.schema parent below → Each (FieldStands e.schema T) (fields_in e T g parent below)) (sym found.1) (inside found.0 (stands_where_applies e.schema keeps T found.0 found.2)) known
      ))
      (λ (isnt : applies_by_name e.schema T on ≡ false). rw (isnt) tt)
      (cases_Bool (applies_by_name e.schema T on))

  mutual
    one_stands : (g : List ℕ → List CollectedField) (P : ℕ) (x : SelectionTree) → GivesStanding g → StandsOn e.schema T P → IsKnownIn e.schema (Some P) x → Each (FieldStands e.schema T) (fields_of e T g (Some P) x)
    one_stands g P (field_selection names arguments directives below) gives stands known = ((P, refl, stands, known.0, known.1), tt)
    one_stands g P (fragment_spread name directives) gives stands known = gives name.0
    one_stands g P (inline_fragment None directives below) gives stands known = all_stand g P below gives stands known
    one_stands g P (inline_fragment (Some on) directives below) gives stands known = in_fragment g on.0 below (λ c there known_there. all_stand g c below gives there known_there) known

    all_stand : (g : List ℕ → List CollectedField) (P : ℕ) (xs : SelectionTrees) → GivesStanding g → StandsOn e.schema T P → AreKnownIn e.schema (Some P) xs → Each (FieldStands e.schema T) (fields_in e T g (Some P) xs)
    all_stand g P no_selection gives stands known = tt
    all_stand g P (selection_then x others) gives stands known =
        each_append (FieldStands e.schema T) (if is_included e.values x then fields_of e T g (Some P) x else []) (fields_in e T g (Some P) others)
        (each_where (FieldStands e.schema T) (is_included e.values x) (fields_of e T g (Some P) x) (one_stands g P x gives stands known.0)) (all_stand g P others gives stands known.1)

  entered_stands : (g : List ℕ → List CollectedField) (fs : List FragmentData) (name : List ℕ) → GivesStanding g → FragmentsKnown e.schema fs → Each (FieldStands e.schema T) (fields_entered e T g (find (λ x. bytes_eq (fragment_name x) name) fs))
  entered_stands g [] name gives known = tt
  entered_stands g (b ∷ fs) name gives known = ⊎_elim
      (λ (is : bytes_eq (fragment_name b) name ≡ true). rw (is) (in_fragment g b.on.0 b.below (λ c there known_there. all_stand g c b.below gives there known_there) known.0))
      (λ (is : bytes_eq (fragment_name b) name ≡ false). rw (is) (entered_stands g fs name gives known.1))
      (cases_Bool (bytes_eq (fragment_name b) name))

  spread_stands : (depth : ℕ) (name : List ℕ) → FragmentsKnown e.schema e.fragments → Each (FieldStands e.schema T) (fields_spread e T depth name)
  unfolding fields_spread fragment_named
  spread_stands zero name known = tt
  spread_stands (suc depth) name known = entered_stands (fields_spread e T depth) e.fragments name (λ other. spread_stands depth other known) known

  written_stands : (depth : ℕ) (v : WrittenSelections) → FragmentsKnown e.schema e.fragments → StandAt e.schema T v → Each (FieldStands e.schema T) (fields_written e T (fields_spread e T depth) v)
  written_stands depth v fragments stand =
      subst (λ (parent : Option ℕ). AreKnownIn e.schema parent v.1 → Each (FieldStands e.schema T) (fields_in e T (fields_spread e T depth) parent v.1)) (sym stand.1)
      (all_stand (fields_spread e T depth) stand.0 v.1 (λ name. spread_stands depth name fragments) stand.2) stand.3

  written_all_stand : (depth : ℕ) (ws : List WrittenSelections) → FragmentsKnown e.schema e.fragments → AllStandAt e.schema T ws → Each (FieldStands e.schema T) (collected_to e T depth ws)
  written_all_stand depth [] fragments stand = tt
  written_all_stand depth (v ∷ ws) fragments stand =
      each_append (FieldStands e.schema T) (fields_written e T (fields_spread e T depth) v) (collected_to e T depth ws) (written_stands depth v fragments stand.0) (written_all_stand depth ws fragments stand.1)

  fields_stand : (p : Position) → FragmentsKnown e.schema e.fragments → AllStandAt e.schema T p.selections → Each (FieldStands e.schema T) (fields_at e T p)
  unfolding collected
  fields_stand p fragments stand = written_all_stand (nesting e) p.selections fragments stand

  key_stands : (k : List ℕ) (fs : List CollectedField) → Each (FieldStands e.schema T) fs → Each (FieldStands e.schema T) (fields_of_key k fs)
  key_stands k [] stand = tt
  key_stands k (f ∷ fs) stand = ⊎_elim
      (λ (here : bytes_eq f.key k ≡ true). rw (here) (stand.0, key_stands k fs stand.1))
      (λ (other : bytes_eq f.key k ≡ false). rw (other) (key_stands k fs stand.1))
      (cases_Bool (bytes_eq f.key k))

  pub under_stands : (k : List ℕ) (p : Position) → FragmentsKnown e.schema e.fragments → AllStandAt e.schema T p.selections → Each (FieldStands e.schema T) (fields_under e T k p)
  under_stands k p fragments stand = key_stands k (fields_at e T p) (fields_stand p fragments stand)

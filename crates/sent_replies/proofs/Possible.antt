-- An object of a possible type, by the plan: its nodes, its keys, and the name of its type.
use Rattle.std.proofs.Common.{◌≡◌, ⊎_elim, ℕ, List, [], ◌∷◌, Bool, true, false, true≢false, ◌||◌, ◌&&◌, eqb, eqb-true, bytes_eq, Some, refl, sym, ap, ◌∙◌, subst}
use Rattle.std.specs.List.{list_any}
use Rattle.std.proofs.lemmas.Bool.{cases_Bool, or_right}
use Rattle.std.proofs.lemmas.Slice.Eq.{bytes_eq-Decides}
use Rattle.serde_json.specs.Data.{Data, string, Members, no_members, member}
use Rattle.serde_json.specs.Find.{get_member}
use Rattle.response_model.specs.Plan.{Form, single, type_name, Selected, ObjectTypes, no_type, object_type, Nodes, no_node, node, is_possible, nodes_of}
use Rattle.response_model.specs.Response.{Tree, null, leaf, list_of, object, Entries, no_entry, entry}
use Rattle.response_model.specs.Reading.{has_key, IsOnlyType, IsOfType, KeysKnown}
use Rattle.schema_model.specs.SchemaData.{type_at}
use Rattle.plan_model.specs.SelectedFields.{Setting, FieldCall, Place, leaf_place, form_at, place_at}
use Rattle.plan_model.specs.Merging.{Position, fields_at, keys_at, call_under, below_key}
use Rattle.plan_model.specs.Plans.{ArePossible, AreNodes}
use Rattle.plan_model.specs.Responses.{is_among, FitsSelections, EntriesFitSelections}
use Rattle.stripped_responses.proofs.RewrittenFields.{Each, typename_call, e'}
use Rattle.stripped_responses.proofs.RewrittenKeys.{own_keys, IsTypename}
use Rattle.stripped_responses.proofs.SameCalls.{typename_form, typename_place}
use Rattle.sent_replies.specs.Saying.{has_entry, AreKeysOf, SaysTree, SayEntries}
use Rattle.sent_replies.specs.Asking.{HasOneType, TellsType, BelowTypesTell, BelowNodesTell, type_names}
use Rattle.sent_replies.proofs.Ends.{IsOwnKey}

module _ (e : Setting) where
  pub is_possible_type : (Ts : List ℕ) (p : Position) (possible : ObjectTypes) (T : ℕ) → ArePossible e Ts p possible → is_among T Ts ≡ true → is_possible T possible ≡ true
  is_possible_type [] p possible T h among = absurd (true≢false (sym among))
  is_possible_type (U ∷ Us) p no_type T h among = absurd h
  is_possible_type (U ∷ Us) p (object_type V weight nodes others) T h among = ⊎_elim
      (λ (here : eqb V T ≡ true). rw (here) refl)
      (λ (later : eqb V T ≡ false). or_right (eqb V T) (is_possible T others) (is_possible_type Us p others T h.3 (sym (ap (λ (b : Bool). b || is_among T Us) (ap (λ (x : ℕ). eqb x T) (sym h.0) ∙ later)) ∙ among)))
      (cases_Bool (eqb V T))

  -- the nodes of a type, and what they tell
  abbrev pub AreItsNodes : Position → ℕ → Nodes → Type 0
  AreItsNodes p T nodes = AreNodes e T (keys_at e T p) p nodes × BelowNodesTell nodes

  pub its_nodes : (Ts : List ℕ) (p : Position) (possible : ObjectTypes) (T : ℕ) → ArePossible e Ts p possible → BelowTypesTell possible → is_among T Ts ≡ true → AreItsNodes p T (nodes_of T possible)
  its_nodes [] p possible T h tell among = absurd (true≢false (sym among))
  its_nodes (U ∷ Us) p no_type T h tell among = absurd h
  its_nodes (U ∷ Us) p (object_type V weight nodes others) T h tell among = ⊎_elim
      (λ (here : eqb V T ≡ true). rw (here) (subst (λ (x : ℕ). AreItsNodes p x nodes) (sym h.0 ∙ eqb-true V T here) (h.2, tell.0)))
      (λ (later : eqb V T ≡ false). rw (later) (its_nodes Us p others T h.3 tell.1 (sym (ap (λ (b : Bool). b || is_among T Us) (ap (λ (x : ℕ). eqb x T) (sym h.0) ∙ later)) ∙ among)))
      (cases_Bool (eqb V T))

  -- a key is that of a node
  pub node_of_key : (T : ℕ) (ks : List (List ℕ)) (p : Position) (nodes : Nodes) (k : List ℕ) → AreNodes e T ks p nodes → list_any (bytes_eq k) ks ≡ true → has_key k nodes ≡ true
  node_of_key T [] p nodes k are has = absurd (true≢false (sym has))
  node_of_key T (l ∷ ks) p no_node k are has = absurd are
  node_of_key T (l ∷ ks) p (node s below others) k are has = ⊎_elim
      (λ (here : bytes_eq k s.key ≡ true). rw (here) refl)
      (λ (later : bytes_eq k s.key ≡ false). or_right (bytes_eq k s.key) (has_key k others) (node_of_key T ks p others k are.2 (sym (ap (λ (b : Bool). b || list_any (bytes_eq k) ks) (ap (bytes_eq k) (sym (ap (λ (x : Selected). x.key) are.0)) ∙ later)) ∙ has)))
      (cases_Bool (bytes_eq k s.key))

pub only_type : (possible : ObjectTypes) (T : ℕ) → HasOneType possible → is_possible T possible ≡ true → IsOnlyType T possible
only_type no_type T one is = absurd (true≢false (sym is))
only_type (object_type U weight nodes no_type) T one is = ⊎_elim
    (λ (here : eqb U T ≡ true). eqb-true U T here)
    (λ (other : eqb U T ≡ false). absurd (true≢false (sym is ∙ ap (λ (b : Bool). b || false) other)))
    (cases_Bool (eqb U T))
only_type (object_type U weight nodes (object_type V weight' nodes' others)) T one is = absurd one

module _ (name : ℕ → List ℕ) (alias : List ℕ) where
  pub of_type : (asked : Bool) (possible : ObjectTypes) (ms : Members) (T : ℕ) → TellsType asked possible → is_possible T possible ≡ true → (asked ≡ true → get_member alias ms ≡ Some (string (name T))) → IsOfType name alias asked possible ms T
  of_type true possible ms T tells is named = (is, named refl)
  of_type false possible ms T tells is named = only_type possible T tells is

  pub known_keys : (asked : Bool) (nodes : Nodes) (es : Entries) (ms : Members) → ((k : List ℕ) → has_entry k es ≡ true → (has_key k nodes || (asked && bytes_eq k alias)) ≡ true) → AreKeysOf es ms → KeysKnown name alias asked nodes ms
  known_keys asked nodes es no_members known keys = tt
  known_keys asked nodes es (member k d ms) known keys = (known k keys.0, known_keys asked nodes es ms known keys.1)

module _ (alias : List ℕ) where
  pub among_own : (k : List ℕ) (ks : List (List ℕ)) → bytes_eq k alias ≡ false → list_any (bytes_eq k) ks ≡ true → list_any (bytes_eq k) (own_keys alias ks) ≡ true
  among_own k [] isnt has = has
  among_own k (l ∷ ks) isnt has = ⊎_elim
      (λ (is : bytes_eq l alias ≡ true). rw (is) (among_own k ks isnt (later l ks (other_from l is) has)))
      (λ (other : bytes_eq l alias ≡ false). rw (other) (⊎_elim
      (λ (here : bytes_eq k l ≡ true). rw (here) refl)
      (λ (no_key : bytes_eq k l ≡ false). or_right (bytes_eq k l) (list_any (bytes_eq k) (own_keys alias ks)) (among_own k ks isnt (later l ks no_key has)))
      (cases_Bool (bytes_eq k l))))
      (cases_Bool (bytes_eq l alias))
    where
      later : (l : List ℕ) (ks : List (List ℕ)) → bytes_eq k l ≡ false → list_any (bytes_eq k) (l ∷ ks) ≡ true → list_any (bytes_eq k) ks ≡ true
      later l ks no_key has = sym (ap (λ (b : Bool). b || list_any (bytes_eq k) ks) no_key) ∙ has

      other_from : (l : List ℕ) → bytes_eq l alias ≡ true → bytes_eq k l ≡ false
      other_from l is = ⊎_elim
          (λ (here : bytes_eq k l ≡ true). absurd (true≢false (sym ((bytes_eq-Decides k alias).1 ((bytes_eq-Decides k l).0 here ∙ (bytes_eq-Decides l alias).0 is)) ∙ isnt)))
          (λ (other : bytes_eq k l ≡ false). other)
          (cases_Bool (bytes_eq k l))

  pub each_own : (k : List ℕ) (ks : List (List ℕ)) → Each (IsOwnKey alias) ks → list_any (bytes_eq k) ks ≡ true → bytes_eq k alias ≡ false
  each_own k [] own has = absurd (true≢false (sym has))
  each_own k (l ∷ ks) own has = ⊎_elim
      (λ (here : bytes_eq k l ≡ true). ap (λ (z : List ℕ). bytes_eq z alias) ((bytes_eq-Decides k l).0 here) ∙ own.0)
      (λ (other : bytes_eq k l ≡ false). each_own k ks own.1 (sym (ap (λ (b : Bool). b || list_any (bytes_eq k) ks) other) ∙ has))
      (cases_Bool (bytes_eq k l))

module _ (alias : List ℕ) (e : Setting) where
  abbrev w : Setting
  w = e' alias e

  module _ (T : ℕ) where
    -- the keys of entries that fit
    pub key_of_entry : (ks : List (List ℕ)) (q : Position) (es : Entries) (k : List ℕ) → EntriesFitSelections w T ks q es → has_entry k es ≡ true → list_any (bytes_eq k) ks ≡ true
    key_of_entry [] q no_entry k fits has = has
    key_of_entry [] q (entry key t es) k fits has = absurd fits
    key_of_entry (l ∷ ks) q no_entry k fits has = absurd fits
    key_of_entry (l ∷ ks) q (entry key t es) k fits has = ⊎_elim
        (λ (here : bytes_eq k l ≡ true). rw (here) refl)
        (λ (later : bytes_eq k l ≡ false). or_right (bytes_eq k l) (list_any (bytes_eq k) ks) (key_of_entry ks q es k fits.2 (sym (ap (λ (b : Bool). b || has_entry k es) (ap (bytes_eq k) (sym fits.0) ∙ later)) ∙ has)))
        (cases_Bool (bytes_eq k l))

    -- what is said under the alias
    said_name : (fill : Data) (q : Position) (t : Tree) (d : Data) → FitsSelections w (single false) (leaf_place type_name 0 fill) q t → SaysTree d t → d ≡ fill
    said_name fill q null d fits said = absurd (true≢false (sym fits))
    said_name fill q (leaf json) d fits said = said ∙ fits.1
    said_name fill q (list_of ts) d fits said = absurd fits
    said_name fill q (object U es) d fits said = absurd fits

    said_typename : (q : Position) (c : FieldCall) (t : Tree) (d : Data) → c ≡ typename_call → FitsSelections w (form_at w T c) (place_at w T c) q t → SaysTree d t → d ≡ string (type_names e.schema T)
    said_typename q c t d is fits said =
        let form : form_at w T c ≡ single false = ap (form_at w T) is ∙ typename_form alias w T in
        let place : place_at w T c ≡ leaf_place type_name 0 (string (type_at w.schema T).name) = ap (place_at w T) is ∙ typename_place alias w T in
        said_name (string (type_names e.schema T)) q t d (subst (λ (z : Place). FitsSelections w (single false) z q t) place (subst (λ (f : Form). FitsSelections w f (place_at w T c) q t) form fits)) said

    pub name_said : (ks : List (List ℕ)) (q : Position) (es : Entries) (ms : Members) → list_any (bytes_eq alias) ks ≡ true → Each (IsTypename alias (fields_at w T q)) ks
        → EntriesFitSelections w T ks q es → SayEntries ms es → get_member alias ms ≡ Some (string (type_names e.schema T))
    name_said [] q es ms has typenames fits say = absurd (true≢false (sym has))
    name_said (k ∷ ks) q no_entry ms has typenames fits say = absurd fits
    name_said (k ∷ ks) q (entry key t es) ms has typenames fits say = ⊎_elim
        (λ (here : bytes_eq alias k ≡ true). (
        let is : alias ≡ k = (bytes_eq-Decides alias k).0 here in
        ap (λ (z : List ℕ). get_member z ms) (is ∙ fits.0) ∙ (say.0.1 ∙ ap Some (said_typename (below_key w T k q) (call_under w T k q) t say.0.0 (typenames.0 ((bytes_eq-Decides k alias).1 (sym is))) fits.1 say.0.2))
        ))
        (λ (later : bytes_eq alias k ≡ false). name_said ks q es ms (sym (ap (λ (b : Bool). b || list_any (bytes_eq alias) ks) later) ∙ has) typenames.1 fits.2 say.1)
        (cases_Bool (bytes_eq alias k))

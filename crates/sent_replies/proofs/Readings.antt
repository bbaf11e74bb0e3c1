-- What is said of a response to rewritten selections reads by the client's own plan.
use Rattle.std.proofs.Common.{◌≡◌, ⊎_elim, ℕ, List, [], ◌∷◌, Bool, true, false, true≢false, ◌||◌, ◌&&◌, bytes_eq, Some, refl, sym, ap, ◌∙◌, subst}
use Rattle.std.specs.Prelude.{if◌then◌else◌}
use Rattle.std.specs.List.{list_any}
use Rattle.std.proofs.lemmas.Bool.{cases_Bool, or_right}
use Rattle.serde_json.specs.Data.{Data, string, Items, no_items, item, Members}
use Rattle.serde_json.specs.Find.{get_member}
use Rattle.response_model.specs.Plan.{Form, single, listed, Selected, Plan, leaf_plan, position, Nodes, no_node, node, nodes_of}
use Rattle.response_model.specs.Response.{Tree, null, leaf, list_of, object, Elements, no_element, element, Entries, no_entry, entry, is_null}
use Rattle.response_model.specs.Reading.{has_key, Reads, EntriesRead, ElementsRead}
use Rattle.plan_model.specs.SelectedFields.{Setting, Place, leaf_place, object_place, form_at, place_at}
use Rattle.plan_model.specs.Merging.{Position, asks, fields_under, keys_at, call_under, selected_under, below_key}
use Rattle.plan_model.specs.Plans.{IsPlan, AreNodes, with_capped}
use Rattle.plan_model.specs.Responses.{FitsSelections, EntriesFitSelections, ElementsFitSelections}
use Rattle.stripped_responses.specs.Stripping.{stripped, stripped_entries, stripped_elements, IsRewritten, HasNoAlias}
use Rattle.stripped_responses.proofs.RewrittenFields.{Each, e'}
use Rattle.stripped_responses.proofs.RewrittenKeys.{own_keys, Between, between}
use Rattle.stripped_responses.proofs.Stripping.{own_form, own_place}
use Rattle.sent_replies.specs.Saying.{SaysTree, SayEntries, SayElements}
use Rattle.sent_replies.specs.Asking.{AllHaveSelections, FragmentsHaveSelections, TellsTypes, BelowNodesTell, type_names, IsSentBy}
use Rattle.sent_replies.proofs.Ends.{alias_is_key, alias_is_none}
use Rattle.sent_replies.proofs.Selected.{FieldHas, under_has, below_has}
use Rattle.sent_replies.proofs.Below.{sent_is_rewritten, asks_below}
use Rattle.sent_replies.proofs.Possible.{is_possible_type, AreItsNodes, its_nodes, node_of_key, of_type, known_keys, among_own, each_own, key_of_entry, name_said}

module _ (alias : List ℕ) (e : Setting) where
  abbrev w : Setting
  w = e' alias e

  abbrev names : ℕ → List ℕ
  names = type_names e.schema

  -- what an operation's selections and fragments keep at every position
  record Sent (p q : Position) : Type 0 where
    has_none : HasNoAlias alias e p
    rewritten : IsRewritten alias e.schema p q
    own_selections : AllHaveSelections e.schema p.selections
    fragments : FragmentsHaveSelections e.schema e.fragments

  sent_of_position : (asked : Bool) (place : Place) (p q : Position) (plan : Plan) → IsSentBy alias e asked place p q plan → Sent p q
  sent_of_position asked place p q plan s = record { has_none = s.has_none; rewritten = sent_is_rewritten alias e asked p q s.is_sent; own_selections = s.own_selections; fragments = s.fragments }

  module _ (T : ℕ) where
    -- whether the node of a key asks for the name of the type
    abbrev asked_under : List ℕ → Position → Bool
    asked_under k p = list_any (asks e) (fields_under e T k p)

    -- what stands below a key of the client's own
    below_sent : (k : List ℕ) (p q : Position) (below : Plan) → bytes_eq k alias ≡ false → Sent p q → Between alias e T p q → IsPlan e (place_at e T (call_under e T k p)) (below_key e T k p) below → TellsTypes (asked_under k p) below
        → IsSentBy alias e (asked_under k p) (place_at e T (call_under e T k p)) (below_key e T k p) (below_key w T k q) below
    below_sent k p q below isnt s m is_plan tells =
        let has : Each (FieldHas e) (fields_under e T k p) = under_has e T k p s.fragments s.own_selections in
        record {
          has_none = m.free k;
          own_selections = below_has e (fields_under e T k p) has;
          fragments = s.fragments;
          is_sent = asks_below alias e T k p q isnt s.has_none s.rewritten has;
          is_plan = is_plan;
          tells = tells;
        }

    -- a value under such a key fits as the client's own selections have it
    own_fits : (k : List ℕ) (p q : Position) (t : Tree) → call_under w T k q ≡ call_under e T k p → FitsSelections w (form_at w T (call_under w T k q)) (place_at w T (call_under w T k q)) (below_key w T k q) t
        → FitsSelections w (form_at e T (call_under e T k p)) (place_at e T (call_under e T k p)) (below_key w T k q) t
    own_fits k p q t is fits =
        subst (λ (z : Place). FitsSelections w (form_at e T (call_under e T k p)) z (below_key w T k q) t) (own_place alias e T k p q is)
        (subst (λ (f : Form). FitsSelections w f (place_at w T (call_under w T k q)) (below_key w T k q) t) (own_form alias e T k p q is) fits)

    -- ---- keys

    known_key : (asked : Bool) (place : Place) (p q : Position) (plan : Plan) (nodes : Nodes) (k : List ℕ) → IsSentBy alias e asked place p q plan → Between alias e T p q → AreNodes e T (keys_at e T p) p nodes
        → list_any (bytes_eq k) (keys_at w T q) ≡ true → (has_key k nodes || (asked && bytes_eq k alias)) ≡ true
    known_key asked place p q plan nodes k s m are has = ⊎_elim
        (λ (is : bytes_eq k alias ≡ true). by_mark asked s is)
        (λ (isnt : bytes_eq k alias ≡ false). ap (λ (b : Bool). b || (asked && bytes_eq k alias)) (node_of_key e T (keys_at e T p) p nodes k are (subst (λ (ks : List (List ℕ)). list_any (bytes_eq k) ks ≡ true) m.keys (among_own alias k (keys_at w T q) isnt has))))
        (cases_Bool (bytes_eq k alias))
      where
        by_mark : (asked : Bool) → IsSentBy alias e asked place p q plan → bytes_eq k alias ≡ true → (has_key k nodes || (asked && bytes_eq k alias)) ≡ true
        by_mark true s is = or_right (has_key k nodes) (bytes_eq k alias) is
        by_mark false s is = absurd (true≢false (sym is ∙ each_own alias k (keys_at w T q) (alias_is_none alias e T p q s.has_none s.is_sent) has))

    named : (asked : Bool) (place : Place) (p q : Position) (plan : Plan) (es : Entries) (ms : Members) → IsSentBy alias e asked place p q plan → Between alias e T p q → EntriesFitSelections w T (keys_at w T q) q es → SayEntries ms es
        → asked ≡ true → get_member alias ms ≡ Some (string (names T))
    named true place p q plan es ms s m fits say is = name_said alias e T (keys_at w T q) q es ms (alias_is_key alias e T p q s.is_sent) m.typenames fits say
    named false place p q plan es ms s m fits say is = absurd (true≢false (sym is))

    -- ---- entries

    abbrev ReadsUnder : List ℕ → Position → Members → List ℕ → Tree → Plan → Type 0
    ReadsUnder k p ms key t below = (d : Data) × (get_member key ms ≡ Some d) × Reads names alias (form_at e T (call_under e T k p)) (asked_under k p) below d t

    stays : (k key : List ℕ) (ls : List (List ℕ)) (p : Position) (nodes : Nodes) (t : Tree) (gs : Entries) (ms : Members) → k ≡ key
        → ((below : Plan) → IsPlan e (place_at e T (call_under e T k p)) (below_key e T k p) below → TellsTypes (asked_under k p) below → ReadsUnder k p ms key t below)
        → ((others : Nodes) → AreNodes e T ls p others → BelowNodesTell others → EntriesRead names alias others ms gs)
        → AreNodes e T (k ∷ ls) p nodes → BelowNodesTell nodes → EntriesRead names alias nodes ms (entry key t gs)
    stays k key ls p no_node t gs ms same value rest are tell = absurd are
    stays k key ls p (node s below others) t gs ms same value rest are tell =
        let made : Selected = with_capped (selected_under e T k p) in
        let found : ReadsUnder k p ms key t below = value below are.1 (subst (λ (x : Selected). TellsTypes x.asked below) are.0 tell.0) in
        subst (λ (x : Selected). EntriesRead names alias (node x below others) ms (entry key t gs)) (sym are.0)
        (sym same, (found.0, ap (λ (z : List ℕ). get_member z ms) same ∙ found.1, found.2), rest others are.2 tell.1)

    either : (b : Bool) (k : List ℕ) (ls : List (List ℕ)) (p : Position) (nodes : Nodes) (key : List ℕ) (t : Tree) (gs : Entries) (ms : Members)
        → (b ≡ true → AreNodes e T ls p nodes → EntriesRead names alias nodes ms gs)
        → (b ≡ false → AreNodes e T (k ∷ ls) p nodes → EntriesRead names alias nodes ms (entry key t gs))
        → AreNodes e T (if b then ls else k ∷ ls) p nodes → EntriesRead names alias nodes ms (if b then gs else entry key t gs)
    either true k ls p nodes key t gs ms is isnt are = is refl are
    either false k ls p nodes key t gs ms is isnt are = isnt refl are

  mutual
    pub value_reads : (form : Form) (asked : Bool) (place : Place) (p q : Position) (plan : Plan) (t : Tree) (json : Data) → IsSentBy alias e asked place p q plan → FitsSelections w form place q t → SaysTree json t → Reads names alias form asked plan json (stripped alias t)
    value_reads form asked place p q plan null json s fits say = say
    value_reads (single nullable) asked (leaf_place type weight fill) p q (leaf_plan type' weight' fill') (leaf value) json s fits say = (ap is_null say ∙ fits.0, sym say)
    value_reads (single nullable) asked (leaf_place type weight fill) p q (position possible) (leaf value) json s fits say = absurd s.is_plan
    value_reads (single nullable) asked (object_place Ts) p q plan (leaf value) json s fits say = absurd fits
    value_reads (listed nullable item_nullable) asked place p q plan (leaf value) json s fits say = absurd fits
    value_reads (single nullable) asked place p q plan (list_of ts) json s fits say = absurd fits
    value_reads (listed nullable item_nullable) asked place p q plan (list_of ts) json s fits say = (say.0, say.1, elements_read item_nullable asked place p q plan ts say.0 s fits say.2)
    value_reads (single nullable) asked (leaf_place type weight fill) p q plan (object T es) json s fits say = absurd fits
    value_reads (single nullable) asked (object_place Ts) p q (leaf_plan type weight fill) (object T es) json s fits say = absurd s.is_plan
    value_reads (single nullable) asked (object_place Ts) p q (position possible) (object T es) json s fits say =
        let sent : Sent p q = sent_of_position asked (object_place Ts) p q (position possible) s in
        let m : Between alias e T p q = between alias e T p q sent.has_none sent.rewritten in
        let nodes : Nodes = nodes_of T possible in
        let its : AreItsNodes e p T nodes = its_nodes e Ts p possible T s.is_plan s.tells.1 fits.0 in (
          say.0,
          say.1,
          of_type names alias asked possible say.0 T s.tells.0 (is_possible_type e Ts p possible T s.is_plan fits.0) (named T asked (object_place Ts) p q (position possible) es say.0 s m fits.1 say.3),
          known_keys names alias asked nodes es say.0 (λ k has. known_key T asked (object_place Ts) p q (position possible) nodes k s m its.0 (key_of_entry alias e T (keys_at w T q) q es k fits.1 has)) say.2,
          entries_read T (keys_at w T q) p q nodes es say.0 sent m fits.1 (subst (λ (ks : List (List ℕ)). AreNodes e T ks p nodes) (sym m.keys) its.0) its.1 say.3,
        )
    value_reads (listed nullable item_nullable) asked place p q plan (object T es) json s fits say = absurd fits

    entries_read : (T : ℕ) (ks : List (List ℕ)) (p q : Position) (nodes : Nodes) (es : Entries) (ms : Members) → Sent p q → Between alias e T p q → EntriesFitSelections w T ks q es
        → AreNodes e T (own_keys alias ks) p nodes → BelowNodesTell nodes → SayEntries ms es → EntriesRead names alias nodes ms (stripped_entries alias es)
    entries_read T [] p q no_node no_entry ms sent m fits are tell say = tt
    entries_read T [] p q (node s below others) no_entry ms sent m fits are tell say = absurd are
    entries_read T [] p q nodes (entry key t es) ms sent m fits are tell say = absurd fits
    entries_read T (k ∷ ks) p q nodes no_entry ms sent m fits are tell say = absurd fits
    entries_read T (k ∷ ks) p q nodes (entry key t es) ms sent m fits are tell say =
        subst (λ (b : Bool). EntriesRead names alias nodes ms (if b then stripped_entries alias es else entry key (stripped alias t) (stripped_entries alias es))) (ap (λ (z : List ℕ). bytes_eq z alias) fits.0)
        (either T (bytes_eq k alias) k (own_keys alias ks) p nodes key (stripped alias t) (stripped_entries alias es) ms
        (λ is own. entries_read T ks p q nodes es ms sent m fits.2 own tell say.1)
        (λ isnt own. stays T k key (own_keys alias ks) p nodes (stripped alias t) (stripped_entries alias es) ms fits.0
        (λ below is_plan tells. (
          say.0.0,
          say.0.1,
          value_reads (form_at e T (call_under e T k p)) (asked_under T k p) (place_at e T (call_under e T k p)) (below_key e T k p) (below_key w T k q) below t say.0.0 (below_sent T k p q below isnt sent m is_plan tells) (own_fits T k p q t (m.calls k isnt) fits.1) say.0.2,
        ))
        (λ others are_others tell_others. entries_read T ks p q others es ms sent m fits.2 are_others tell_others say.1)
        own tell)
        are)

    elements_read : (nullable asked : Bool) (place : Place) (p q : Position) (plan : Plan) (ts : Elements) (ds : Items) → IsSentBy alias e asked place p q plan → ElementsFitSelections w nullable place q ts → SayElements ds ts → ElementsRead names alias nullable asked plan ds (stripped_elements alias ts)
    elements_read nullable asked place p q plan no_element no_items s fits say = tt
    elements_read nullable asked place p q plan no_element (item d ds) s fits say = absurd say
    elements_read nullable asked place p q plan (element t ts) no_items s fits say = absurd say
    elements_read nullable asked place p q plan (element t ts) (item d ds) s fits say =
        (value_reads (single nullable) asked place p q plan t d s fits.0 say.0, elements_read nullable asked place p q plan ts ds s fits.1 say.1)

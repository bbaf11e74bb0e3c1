-- The fragments that a received operation reaches are all that are sent, in their order.
use Rattle.std.proofs.Common.{ℕ, zero, suc, ◌+◌, ◌≡◌, List, [], ◌∷◌, map, length, drop, Option, None, Some, refl, sym, ap, ap₂, ◌∙◌, subst, arith}
use Rattle.std.specs.Prelude.{slice_get, option_map}
use Rattle.std.proofs.lemmas.List.{length-map}
use Rattle.std.proofs.lemmas.Option.{slice_get-map}
use Rattle.document_reader.specs.declared.trees.Operation.{Operation}
use Rattle.document_reader.specs.declared.trees.Fragment.{Fragment}
use Rattle.document_reader.specs.declared.trees.Definition.{Definition}
use Rattle.document_reader.specs.declared.trees.Definition.TheVariants.{Op}
use Rattle.document_reader.specs.Documents.{SelectionTrees}
use Rattle.document_reader.specs.Trees.{set_tree}
use Rattle.document_rules.specs.Parts.{FragmentData, fragment_data, fragment_name, fragments_of}
use Rattle.document_rules.specs.Sites.{composite_named}
use Rattle.document_rules.specs.Met.{Met, before_reached, fragments_met, spreads_in, reached, spread_count, spreads_within}
use Rattle.document_rules.specs.Checking.{fragments_in, reached_by}
use Rattle.document_rules.proofs.CycleSteps.{kept_has_ranks}
use Rattle.document_rules.proofs.Lists.{map_twice}
use Rattle.input_values.specs.coercion.Literals.{Environment}
use Rattle.schema_model.specs.SchemaData.{SchemaData}
use Rattle.typename_rewrite.specs.Rewriting.{rewritten_fragment}
use Rattle.acceptance.specs.Requests.{RequestData, Prepared, AsksFor, setting}
use Rattle.acceptance.proofs.AlikeDocuments.{seen_alike}
use Rattle.received_requests.specs.Received.{IsReceived, HasFragments, received_setting, selections_sent, fragments_sent}
use Rattle.received_requests.specs.Offsets.{fragment_placeless}
use Rattle.received_requests.proofs.PickedParts.{Picked, parts_picked, as_fragment, is_it}
use Rattle.received_requests.proofs.ReachedNames.{spreads_placeless, spreads_rewritten, datas_met, before_data, AreFirst, walk_first, datas_count}
use Rattle.received_requests.proofs.ReachedWalks.{spread_in_data, renumbered, reached_in_order}

-- ---- all fragments by their numbers

-- A list of which so many are left from a place on.
front : {X : Type 0} (xs : List X) (i n : ℕ) → length (drop i xs) ≡ suc n → (x : X) × (slice_get xs i ≡ Some x) × (drop i xs ≡ x ∷ drop (suc i) xs)
front [] zero n long = absurd (cc)
front [] (suc i) n long = absurd (cc)
front (x ∷ xs) zero n long = (x, refl, refl)
front (x ∷ xs) (suc i) n long = front xs i n long

none_left : {X : Type 0} (xs : List X) → length xs ≡ 0 → xs ≡ []
none_left [] none = refl
none_left (x ∷ xs) none = absurd (cc)

all_in_order : (fs : List Fragment) (i : ℕ) (ms : List Met) → length (drop i fs) ≡ length ms → fragments_met fs (renumbered i ms) ≡ drop i fs
all_in_order fs i [] long = sym (none_left (drop i fs) long)
all_in_order fs i (m ∷ ms) long =
    let r = front fs i (length ms) long in
    let l = ap length r.2 in
    ap₂ before_reached r.1 (all_in_order fs (suc i) ms (omega (arith, long, l))) ∙ sym r.2

datas_of_met : (fs : List Fragment) (ms : List Met) → map fragment_data (fragments_met fs ms) ≡ datas_met (map fragment_data fs) ms
datas_of_met fs [] = refl
datas_of_met fs (m ∷ ms) =
    one (slice_get fs m.fragment) (fragments_met fs ms)
    ∙ ap₂ before_data (sym (slice_get-map fragment_data fs m.fragment)) (datas_of_met fs ms)
  where
    one : (f : Option Fragment) (others : List Fragment) → map fragment_data (before_reached f others) ≡ before_data (option_map fragment_data f) (map fragment_data others)
    one None others = refl
    one (Some f) others = refl

only_fragments : (o : Operation) (fs : List Fragment) → fragments_of (Op o ∷ map as_fragment fs) ≡ fs
only_fragments o fs = each fs
  where
    each : (gs : List Fragment) → fragments_of (map as_fragment gs) ≡ gs
    each [] = refl
    each (g ∷ gs) = ap (λ (l : List Fragment). g ∷ l) (each gs)

-- ---- rewritten fragments but for the offsets of names

module _ (s : SchemaData) (alias : List ℕ) (sent own : List FragmentData) (same : map fragment_placeless sent ≡ map fragment_placeless (map (rewritten_fragment s alias) own)) where
  names_alike : map fragment_name sent ≡ map fragment_name own
  names_alike = seen_alike fragment_name fragment_placeless fragment_name (λ f. refl) sent (map (rewritten_fragment s alias) own) same ∙ map_twice fragment_name (rewritten_fragment s alias) own

  bodies_alike : map spread_in_data sent ≡ map spread_in_data own
  bodies_alike = seen_alike spread_in_data fragment_placeless spread_in_data (λ f. sym (spreads_placeless f.below)) sent (map (rewritten_fragment s alias) own) same ∙ (map_twice spread_in_data (rewritten_fragment s alias) own ∙ each own)
    where
      each : (fs : List FragmentData) → map (λ (f : FragmentData). spread_in_data (rewritten_fragment s alias f)) fs ≡ map spread_in_data fs
      each [] = refl
      each (f ∷ fs) = ap₂ (λ (x : List (List ℕ)) (xs : List (List (List ℕ))). x ∷ xs) (spreads_rewritten alias s (composite_named s f.on.0) f.below) (each fs)

-- ---- what is reached

module _ (r : RequestData) (p : Prepared r) (alias : List ℕ) (q : RequestData) (is : IsReceived r p alias q) where
  abbrev parts : Picked r p alias q
  parts = parts_picked r p alias q is

  abbrev own : List FragmentData
  own = fragments_in r.document

  abbrev sent : List FragmentData
  sent = map fragment_data parts.fragments

  abbrev met : List Met
  met = reached_by r.document p.operation

  abbrev below : SelectionTrees
  below = set_tree p.operation.selections.items

  first : AreFirst own met
  first = walk_first own (length (spreads_in below) + spread_count own) [] (spreads_within None below) tt

  datas : (setting r p).fragments ≡ datas_met own met
  datas = datas_of_met (fragments_of r.document) met

  same : map fragment_placeless sent ≡ map fragment_placeless (map (rewritten_fragment r.schema alias) (datas_met own met))
  same = parts.same ∙ ap (λ (l : List FragmentData). map fragment_placeless (map (rewritten_fragment r.schema alias) l)) datas

  same_spreads : spreads_in (set_tree parts.operation.selections.items) ≡ spreads_in below
  same_spreads =
      sym (spreads_placeless (set_tree parts.operation.selections.items))
      ∙ (ap spreads_in parts.copy.selections ∙ (spreads_placeless (selections_sent r p alias) ∙ spreads_rewritten alias r.schema (Some p.root) below))

  in_order : reached sent (set_tree parts.operation.selections.items) ≡ renumbered 0 met
  in_order =
      reached_in_order own sent met below first (kept_has_ranks r.schema r.document p.operation p.keeps.1) (names_alike r.schema alias sent (datas_met own met) same)
      (bodies_alike r.schema alias sent (datas_met own met) same) (set_tree parts.operation.selections.items) same_spreads refl

  as_many : length parts.fragments ≡ length met
  as_many =
      sym (length-map parts.fragments fragment_data)
      ∙ (sym (length-map sent fragment_name) ∙ (ap length (names_alike r.schema alias sent (datas_met own met) same) ∙ (length-map (datas_met own met) fragment_name ∙ datas_count own met first)))

  all_reached : fragments_met (fragments_of q.document) (reached_by q.document parts.operation) ≡ parts.fragments
  all_reached =
      ap (λ (ds : List Definition). fragments_met (fragments_of ds) (reached_by ds parts.operation)) parts.document
      ∙ (ap (λ (fs : List Fragment). fragments_met fs (reached (map fragment_data fs) (set_tree parts.operation.selections.items))) (only_fragments parts.operation parts.fragments)
      ∙ (ap (fragments_met parts.fragments) in_order ∙ all_in_order parts.fragments 0 met as_many))

  pub fragments_kept : (o : Operation) (values : Environment) → AsksFor q o → HasFragments (received_setting q values o) (fragments_sent r p alias)
  fragments_kept o values asks =
      subst (λ (x : Operation). HasFragments (received_setting q values x) (fragments_sent r p alias)) (is_it r p alias q is o asks)
      (ap (λ (fs : List Fragment). map fragment_placeless (map fragment_data fs)) all_reached ∙ parts.same)

-- What is found at a type, of the fields of a key, and below a node is what is asked there.
use Rattle.std.proofs.Common.{◌≡◌, inl, inr, ℕ, zero, suc, ◌+◌, ◌-◌, ◌<◌, ◌≤◌, List, [], ◌∷◌, ◌++◌, map, flat_map, drop, get_or, length, All, None, Option, Some, Result, append_assoc, append-nil, refl, sym, ap, ◌∙◌, subst, arith}
use Rattle.std.proofs.lemmas.List.{drop_all}
use Rattle.std.proofs.lemmas.List.Elements.{All-head, All-tail, All-cons, All-get_or}
use Rattle.gql_base.proofs.Lists.{at_front}
use Rattle.gql_base.specs.declared.parts.trees.Argument.{Argument as WrittenArgument}
use Rattle.gql_base.specs.parts.Trees.{named_value}
use Rattle.schema_model.specs.declared.args.Args.{Args}
use Rattle.schema_model.specs.Arguments.{ArgData, args_data}
use Rattle.variable_coercion.specs.declared.faults.ArgFault.{ArgFault}
use Rattle.variable_coercion.specs.Refusals.{Refusal}
use Rattle.variable_coercion.specs.Arguments.{arguments_answer}
use Rattle.variable_coercion.specs.Calls.{AnswersRefusal, argument_told}
use Rattle.plan_model.specs.SelectedFields.{Setting, HandedSize, Place, leaf_place, object_place, place_at, coerced_arguments, arguments_at, if_coerced}
use Rattle.plan_model.specs.Collecting.{CollectedField, WrittenSelections, nesting}
use Rattle.plan_model.specs.Merging.{Position, keys_of, fields_at, fields_of_key, keys_at, call_under, below_key, selections_below, position_below}
use Rattle.plan_model.specs.MergingWalk.{IsAcyclic, AreRanked, AllRanked}
use Rattle.plan_model.specs.Repeats.{IsThinned, LeavesOutRepeats}
use Rattle.plan_model.proofs.GivenArguments.{same_arguments_written}
use Rattle.plan_model.proofs.RankedBelow.{acyclic_below}
use Rattle.plan_model.proofs.SameNodes.{same_keys_at, same_call_under, same_selected_under, less_below}
use Rattle.collected_fields.specs.declared.planning.Planning.{Planning}
use Rattle.collected_fields.specs.declared.collected.Collected.{Collected}
use Rattle.collected_fields.specs.declared.collected.Group.{Group}
use Rattle.collected_fields.specs.declared.collector.Collector.{Collector}
use Rattle.collected_fields.specs.Views.{setting_of_planning, collected_field}
use Rattle.collected_fields.specs.Groups.{GroupData, AreGroupsOf}
use Rattle.collected_fields.specs.Lists.{HasMore}
use Rattle.collected_fields.specs.Gathering.{Gathers, IsReady, setting_at, planning_of, written_at, meaning_at, IsNumber, position_at, group_seen, groups_seen, IsGroupAt, GivesGroups}
use Rattle.collected_fields.proofs.GrowingLaws.{same_meanings, still_known}
use Rattle.asked_fields.specs.declared.asked.Argument.{Argument}
use Rattle.asked_fields.specs.declared.asked.AskedNode.{AskedNode}
use Rattle.asked_fields.specs.AskedNodes.{AskedNodes, nothing_asked, asked_then, AskedOne, asked_from, asked_node, asked_nodes}
use Rattle.asked_fields.specs.Asked.{AskedBelow, fields_asked, group_position, asked_at, asked, groups_asked}
use Rattle.asked_fields.specs.Arguments.{argument_kept}
use Rattle.asked_fields.specs.Asking.{first_type, kept_of, kept_below, deeper, asked_for_type, asked_below, asked_by, Frame, frame, CanAsk, CanAskGroup, AsksGroups, AsksGroup}
use Rattle.asked_fields.proofs.Alike.{KeepsNodes, IsAlike, asked_alike}
use Rattle.asked_fields.proofs.Gathered.{gathered_asked}

nothing_before : {A : Type 0} (P : A → Type 0) → All P []
nothing_before P = λ k d lt. absurd (none k lt)
  where
    none : (k : ℕ) → k < 0 → ⊥
    none k lt = omega arith

-- ---- what is asked, level by level

keeps_nodes : (e : Setting) → KeepsNodes e
keeps_nodes e = record { keys = same_keys_at e; call = same_call_under e; selected = same_selected_under e; below = less_below e }

module _ (place : List ℕ → Option ℕ) (e : Setting) where
  deeper_alike : (levels : ℕ) → IsAlike (deeper place e levels)
  deeper_alike zero = λ at p q less. refl
  deeper_alike (suc levels) = asked_alike e (keeps_nodes e) levels

  asked_level : (levels : ℕ) (at : Place) (p : Position) → asked e levels at p ≡ asked_at e (deeper place e levels) at p
  unfolding asked
  asked_level zero at p = refl
  asked_level (suc levels) at p = refl

  -- The size that is handed down to fields isn't kept.
  module _ (below : Place → Position → AskedBelow) (T : ℕ) (selections : List WrittenSelections) (handed other : HandedSize) where
    abbrev with_handed : HandedSize → Position
    with_handed h = record { selections = selections; handed = h }

    same_kept : (ks : List (List ℕ)) → kept_of place (fields_asked e below T (with_handed handed) ks) ≡ kept_of place (fields_asked e below T (with_handed other) ks)
    same_kept [] = refl
    same_kept (k ∷ ks) =
        ap (λ (others : AskedNodes). asked_then k (call_under e T k (with_handed handed)).name (argument_kept place (if_coerced (arguments_at e T (call_under e T k (with_handed handed)))))
        (kept_below place (below (place_at e T (call_under e T k (with_handed handed))) (below_key e T k (with_handed handed)))) others) (same_kept ks)

  same_for_type : (levels T : ℕ) (ss us : List WrittenSelections) (handed other : HandedSize) → ss ≡ us → asked_for_type place e levels T (record { selections = ss; handed = handed }) ≡ asked_for_type place e levels T (record { selections = us; handed = other })
  same_for_type levels T ss us handed other is =
      same_kept (deeper place e levels) T ss handed other (keys_at e T (record { selections = ss; handed = handed }))
      ∙ ap (λ (xs : List WrittenSelections). asked_for_type place e levels T (record { selections = xs; handed = other })) is

  -- what is asked below a node, by the first type of the objects that may stand there
  below_there : (levels : ℕ) (at : Place) (ss us : List WrittenSelections) (handed other : HandedSize) → ss ≡ us
      → asked_below place e levels (first_type at) (record { selections = ss; handed = handed }) ≡ kept_below place (deeper place e levels at (record { selections = us; handed = other }))
  below_there zero at ss us handed other is = refl
  below_there (suc levels) (leaf_place type weight fill) ss us handed other is = sym (ap (kept_below place) (asked_level levels (leaf_place type weight fill) (record { selections = us; handed = other })))
  below_there (suc levels) (object_place []) ss us handed other is = sym (ap (kept_below place) (asked_level levels (object_place []) (record { selections = us; handed = other })))
  below_there (suc levels) (object_place (T ∷ Ts)) ss us handed other is = same_for_type levels T ss us handed other is ∙ sym (ap (kept_below place) (asked_level levels (object_place (T ∷ Ts)) (record { selections = us; handed = other })))

  -- what is asked at a root of one type
  pub root_there : (levels T : ℕ) (p : Position) → asked_for_type place e levels T p ≡ kept_below place (asked e levels (object_place (T ∷ [])) p)
  root_there levels T p = sym (ap (kept_below place) (asked_level levels (object_place (T ∷ [])) p))

  -- ---- groups

  groups_kept : (levels T : ℕ) (handed : HandedSize) (groups : List GroupData) → asked_from (map (asked_by place e levels T) groups) ≡ kept_of place (groups_asked e (deeper place e levels) T handed groups)
  groups_kept levels T handed [] = refl
  groups_kept levels T handed (g ∷ groups) =
      ap (λ (others : AskedNodes). asked_then (asked_by place e levels T g).key (asked_by place e levels T g).name (asked_by place e levels T g).argument (asked_by place e levels T g).below others) (groups_kept levels T handed groups)

  type_kept : (levels T : ℕ) (p : Position) (groups : List GroupData) → Gathers e T p groups → asked_from (map (asked_by place e levels T) groups) ≡ asked_for_type place e levels T p
  type_kept levels T p groups g = groups_kept levels T p.handed groups ∙ ap (kept_of place) (gathered_asked e (deeper place e levels) (deeper_alike levels) T p groups g)

abbrev node_of : List ℕ → List ℕ → Argument → AskedNodes → AskedOne
node_of key name argument below = record { key = key; name = name; argument = argument; below = below }

-- ---- while a collector grows

abbrev pub setting_of : Frame → Setting
setting_of f = setting_of_planning f.0

module _ (old now : Collector) (same : frame now ≡ frame old) (more : HasMore old.joins now.joins) where
  pub same_setting : setting_at now ≡ setting_at old
  same_setting = ap setting_of same

  same_written : written_at now ≡ written_at old
  same_written = ap (λ (f : Frame). f.1) same

  same_below : (numbers : List ℕ) → All (IsNumber old) numbers → flat_map (meaning_at now) numbers ≡ flat_map (meaning_at old) numbers
  same_below numbers known = same_meanings old now same_written more numbers known

  pub same_position : (numbers : List ℕ) → All (IsNumber old) numbers → position_at now numbers ≡ position_at old numbers
  same_position numbers known = ap (λ (ws : List WrittenSelections). record { selections = ws; handed = None }) (same_below numbers known)

  pub same_group : (g : Group) → All (IsNumber old) g.below.items → group_seen now g ≡ group_seen old g
  same_group g known = ap (λ (ws : List WrittenSelections). record { fields = map collected_field g.fields.items; below = ws }) (same_below g.below.items known)

  pub can_still : (numbers : List ℕ) → CanAsk old numbers → CanAsk now numbers
  can_still numbers can = (
    still_known old now same_written more numbers can.0,
    subst (λ (x : Setting). IsAcyclic x (position_at now numbers)) (sym same_setting) (subst (λ (p : Position). IsAcyclic (setting_at old) p) (sym (same_position numbers can.0)) can.1),
  )

  pub can_group : (g : Group) → CanAskGroup old g → CanAskGroup now g
  can_group g can = record { filled = can.filled; below = can_still g.below.items can.below }

-- ---- a type

-- what stands below the groups may be asked
ranked_left : (rank : List ℕ → ℕ) (bound : ℕ) (xs ys seen : List WrittenSelections) → IsThinned seen xs ys → AllRanked rank bound xs → AllRanked rank bound ys
ranked_left rank bound [] [] seen t r = tt
ranked_left rank bound [] (y ∷ ys) seen t r = absurd t
ranked_left rank bound (x ∷ xs) [] seen t r = tt
ranked_left rank bound (x ∷ xs) (y ∷ ys) seen (inl stays) r = (subst (λ (w : WrittenSelections). AreRanked rank bound w.1) stays.0 r.0, ranked_left rank bound xs ys (x ∷ seen) stays.1 r.1)
ranked_left rank bound (x ∷ xs) (y ∷ ys) seen (inr goes) r = ranked_left rank bound xs (y ∷ ys) seen goes.1 r.1

groups_can : (c : Collector) (T : ℕ) (p : Position) (fields : List CollectedField) → LeavesOutRepeats (fields_at (setting_at c) T p) fields → IsAcyclic (setting_at c) p → (keys : List (List ℕ)) (groups : List Group) → AreGroupsOf (setting_at c) fields keys (groups_seen c groups) → All (IsGroupAt c) groups → All (CanAskGroup c) groups
groups_can c T p fields less acyclic [] [] of at = nothing_before (CanAskGroup c)
groups_can c T p fields less acyclic [] (g ∷ groups) of at = absurd of
groups_can c T p fields less acyclic (key ∷ keys) [] of at = absurd of
groups_can c T p fields less acyclic (key ∷ keys) (g ∷ groups) of at =
    let e : Setting = setting_at c in
    let below : IsAcyclic e (position_below e T (fields_of_key key fields)) = acyclic_below acyclic.rank e T acyclic.fragments p fields less acyclic.spreads key in
    let here : IsGroupAt c g = All-head (IsGroupAt c) g groups at in
    All-cons (CanAskGroup c) g groups
    (record {
      filled = here.filled;
      below = (
        here.known,
        record {
          rank = below.rank;
          fragments = below.fragments;
          spreads = ranked_left below.rank (nesting e) (map (selections_below e) (fields_of_key key fields)) (flat_map (meaning_at c) g.below.items) [] of.0.below below.spreads;
        },
      );
    })
    (groups_can c T p fields less acyclic keys groups of.1 (All-tail (IsGroupAt c) g groups at))

module _ (place : List ℕ → Option ℕ) (old : Collector) (levels T : ℕ) where
  abbrev one_asked : Setting → GroupData → AskedOne
  one_asked e = asked_by place e levels T

  -- the nodes that are found for the groups
  pub type_found : (mid : Collector) → frame mid ≡ frame old → (lists : List ℕ) (groups listed : List Group) (nodes : List AskedNode) → listed ≡ groups → GivesGroups old mid T lists groups → IsReady old → CanAsk old lists → AsksGroups place mid levels T listed nodes
      → asked_nodes nodes ≡ asked_for_type place (setting_at old) levels T (position_at old lists)
  type_found mid same lists groups listed nodes is gives ready can h =
      let e : Setting = setting_at old in
      let there : setting_at mid ≡ e = ap setting_of same in
      let g : Gathers e T (position_at old lists) (groups_seen mid groups) = gives.found ready can.1 in
      let may : All (CanAskGroup mid) groups = groups_can mid T (position_at old lists) g.fields (subst (λ (x : Setting). LeavesOutRepeats (fields_at x T (position_at old lists)) g.fields) (sym there) g.repeats) (subst (λ (x : Setting). IsAcyclic x (position_at old lists)) (sym there) can.1) (keys_of g.fields) groups
      (subst (λ (x : Setting). AreGroupsOf x g.fields (keys_of g.fields) (groups_seen mid groups)) (sym there) g.grouped) (gives.right ready can.1) in
      ap asked_from (subst (λ (x : Setting). map asked_node nodes ≡ map (one_asked x) (groups_seen mid groups)) there (subst (λ (gs : List Group). All (CanAskGroup mid) gs → map asked_node nodes ≡ map (one_asked (setting_at mid)) (groups_seen mid gs)) is h may))
      ∙ type_kept place e levels T (position_at old lists) (groups_seen mid groups) g

  -- ---- groups one after another

  module _ (groups : List Group) (at : ℕ) (before : List AskedNode) where
    abbrev GoesOn : ℕ → List AskedNode → Type 0
    GoesOn i nodes = All (CanAskGroup old) groups → map asked_node nodes ++ map (one_asked (setting_at old)) (groups_seen old (drop i groups)) ≡ map (one_asked (setting_at old)) (groups_seen old groups)

    module _ (so_far : GoesOn at before) where
      pub groups_go : (g : Group) (within : at < length groups) (is : g ≡ get_or groups at g) (now : Collector) (after : List AskedNode) → frame now ≡ frame old → HasMore old.joins now.joins → AsksGroup place now levels T g before after → GoesOn (at + 1) after
      groups_go g within is now after same more h all =
          let rest : List AskedOne = map (one_asked (setting_at old)) (groups_seen old (drop (at + 1) groups)) in
          let can : CanAskGroup old g = subst (λ x. CanAskGroup old x) (sym is) (All-get_or (CanAskGroup old) groups at g within all) in
          let pushed : map asked_node after ≡ map asked_node before ++ (one_asked (setting_at old) (group_seen old g) ∷ []) =
          subst (λ (x : Setting). map asked_node after ≡ map asked_node before ++ (one_asked x (group_seen old g) ∷ [])) (same_setting old now same more)
          (subst (λ (d : GroupData). map asked_node after ≡ map asked_node before ++ (one_asked (setting_at now) d ∷ [])) (same_group old now same more g can.below.0) (h (can_group old now same more g can))) in
          ap (λ (l : List AskedOne). l ++ rest) pushed
          ∙ (append_assoc (map asked_node before) (one_asked (setting_at old) (group_seen old g) ∷ []) rest
          ∙ (ap (λ (gs : List Group). map asked_node before ++ map (one_asked (setting_at old)) (groups_seen old gs)) (sym (at_front groups at g within is)) ∙ so_far all))

      pub groups_end : length groups ≤ at → All (CanAskGroup old) groups → map asked_node before ≡ map (one_asked (setting_at old)) (groups_seen old groups)
      groups_end past all = sym (append-nil (map asked_node before)) ∙ (ap (λ (gs : List Group). map asked_node before ++ map (one_asked (setting_at old)) (groups_seen old gs)) (sym (drop_all at groups past)) ∙ so_far all)

  -- ---- a node

  module _ (first : Collected) (lists : List ℕ) where
    abbrev seen : GroupData
    seen = record { fields = collected_field first ∷ []; below = flat_map (meaning_at old) lists }

    pub node_found : (of : Option ℕ) (key name : List ℕ) (argument : Argument) (below : AskedNodes) → key ≡ (one_asked (setting_at old) seen).key → name ≡ (one_asked (setting_at old) seen).name
        → argument ≡ (one_asked (setting_at old) seen).argument → of ≡ first_type (place_at (setting_at old) T (collected_field first).call) → below ≡ asked_below place (setting_at old) levels of (position_at old lists)
        → node_of key name argument below ≡ one_asked (setting_at old) seen
    node_found of key name argument below a b c d g =
        let one : AskedOne = one_asked (setting_at old) seen in
        let at : Place = place_at (setting_at old) T (collected_field first).call in
        ap (λ (k : List ℕ). node_of k name argument below) a
        ∙ (ap (λ (n : List ℕ). node_of one.key n argument below) b
        ∙ (ap (λ (x : Argument). node_of one.key one.name x below) c
        ∙ ap (λ (x : AskedNodes). node_of one.key one.name one.argument x)
        (g ∙ (ap (λ (o : Option ℕ). asked_below place (setting_at old) levels o (position_at old lists)) d
        ∙ below_there place (setting_at old) levels at (flat_map (meaning_at old) lists) (flat_map (meaning_at old) lists) None (group_position (setting_at old) T seen).handed refl))))

-- ---- below a node

module _ (place : List ℕ → Option ℕ) (e : Setting) (p : Position) where
  pub none_left : (levels : ℕ) (of : Option ℕ) → levels ≡ 0 → nothing_asked ≡ asked_below place e levels of p
  none_left levels of is = ap (λ n. asked_below place e n of p) (sym is)

  pub none_there : (levels : ℕ) → nothing_asked ≡ asked_below place e levels None p
  none_there zero = refl
  none_there (suc levels) = refl

  pub some_there : (levels T : ℕ) → (levels ≡ 0 → ⊥) → asked_for_type place e (levels - 1) T p ≡ asked_below place e levels (Some T) p
  some_there zero T some = absurd (some refl)
  some_there (suc levels) T some = ap (λ n. asked_for_type place e n T p) (less levels)
    where
      less : (n : ℕ) → suc n - 1 ≡ n
      less n = omega arith

-- ---- frames

pub frames : (old now : Collector) → planning_of now ≡ planning_of old → written_at now ≡ written_at old → frame now ≡ frame old
frames old now planning written = ap (λ (pl : Planning). (pl, written_at now)) planning ∙ ap (λ (w : ℕ → WrittenSelections). (planning_of old, w)) written

-- ---- arguments

pub answers_coerced : (e : Setting) (field : ℕ) (written listed : List WrittenArgument) (result : Result Args ArgFault) → listed ≡ written → AnswersRefusal args_data argument_told result (arguments_answer e.schema field listed e.values)
    → AnswersRefusal args_data argument_told result (coerced_arguments e.schema field (map named_value written) e.values)
answers_coerced e field written listed result same h =
    subst (λ (a : Result (List ArgData) Refusal). AnswersRefusal args_data argument_told result a) (ap (λ (l : List WrittenArgument). arguments_answer e.schema field l e.values) same ∙ sym (same_arguments_written e.schema field written e.values)) h

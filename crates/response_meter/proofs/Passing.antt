-- A value that passes every test reads as its tree, which fits and keeps the declared sizes.
use Rattle.std.proofs.Common.{◌≡◌, ◌≤◌, ℕ, suc, List, [], ◌∷◌, ◌<◌, length, option_map, Bool, true, false, true≢false, cond, ◌||◌, ◌&&◌, eqb, leb, bytes_eq, Option, Some, None, refl, sym, ap, ◌∙◌, arith, leb-true, eq-eqb}
use Rattle.std.proofs.lemmas.Bool.{and_parts}
use Rattle.std.proofs.lemmas.Slice.Eq.{bytes_eq-Decides}
use Rattle.std.specs.Option.{option_or}
use Rattle.std.proofs.lemmas.Option.{none-some, same_Some}
use Rattle.serde_json.specs.Data.{Data, null as json_null, boolean, number, string, array, object as json_object, Items, no_items, item, Members, no_members, member}
use Rattle.serde_json.specs.Find.{get_member}
use Rattle.serde_json.specs.Events.{items_len}
use Rattle.response_model.specs.Plan.{Form, single, listed, LeafType, type_name, numbered, Plan, leaf_plan, position, ObjectTypes, no_type, object_type, Nodes, no_node, node, is_possible, nodes_of}
use Rattle.response_model.specs.Response.{Tree, null, object, Elements, Entries, count, may_be_null, is_null, IsLeafOf, Fits, EntriesFit, ElementsFit, IsWithin, SizesKept, EntriesKept, ElementsKept}
use Rattle.response_model.specs.Reading.{has_key, IsOnlyType, IsOfType, KeysKnown, Reads, EntriesRead, ElementsRead}
use Rattle.response_meter.specs.declared.fault.Why.{Why}
use Rattle.response_meter.specs.declared.fault.Why.TheVariants.{MissingKey, ExtraKey, NullHere, BadLeaf, BadType}
use Rattle.response_meter.specs.Faults.{Fault, size_broken, key_step, item_step, at_step, tested, given}
use Rattle.response_meter.specs.FirstFault.{null_fault, size_fault, items_fault, list_fault, place_fault, only_type, is_text, keys_known, is_leaf, type_named, type_told, value_fault, object_fault, entries_fault}
use Rattle.response_model.specs.Errors.{ResponseError}
use Rattle.response_meter.specs.Reply.{content_fault, DataReads, IsResponseOrNone}
use Rattle.response_meter.specs.Trees.{data_tree, tree_of, items_tree, list_tree, place_tree, value_tree, object_entries, member_entries}

-- tests that hold
pub some_none : {A B : Type 0} {x : A} → Some x ≡ None → B
some_none {A} {B} {x} h = absurd (none-some x (sym h))

pub held : (b : Bool) (why : Why) (later : Option Fault) → tested b why later ≡ None → (b ≡ true) × (later ≡ None)
held false why later h = some_none h
held true why later h = (refl, h)

pub both_none : (f g : Option Fault) → option_or f g ≡ None → (f ≡ None) × (g ≡ None)
both_none None g h = (refl, h)
both_none (Some x) g h = some_none h

pub step_none : (step : List ℕ) (f : Option Fault) → at_step step f ≡ None → f ≡ None
step_none step None h = refl
step_none step (Some x) h = some_none h

is_json_null : (d : Data) → is_null d ≡ true → d ≡ json_null
is_json_null json_null h = refl
is_json_null (boolean b) h = absurd (true≢false (sym h))
is_json_null (number n) h = absurd (true≢false (sym h))
is_json_null (string s) h = absurd (true≢false (sym h))
is_json_null (array ds) h = absurd (true≢false (sym h))
is_json_null (json_object ms) h = absurd (true≢false (sym h))

text_read : (s : List ℕ) (o : Option Data) → is_text s o ≡ true → o ≡ Some (string s)
text_read s None h = absurd (true≢false (sym h))
text_read s (Some json_null) h = absurd (true≢false (sym h))
text_read s (Some (boolean b)) h = absurd (true≢false (sym h))
text_read s (Some (number n)) h = absurd (true≢false (sym h))
text_read s (Some (string t)) h = ap (λ (x : List ℕ). Some (string x)) (sym ((bytes_eq-Decides s t).0 h))
text_read s (Some (array ds)) h = absurd (true≢false (sym h))
text_read s (Some (json_object ms)) h = absurd (true≢false (sym h))

-- the type that an object says
only_told : (possible : ObjectTypes) (T : ℕ) → only_type possible ≡ Some T → IsOnlyType T possible × (is_possible T possible ≡ true)
only_told no_type T h = some_none (sym h)
only_told (object_type U w ns no_type) T h = (same_Some U T h, ap (λ (b : Bool). b || false) (eq-eqb U T (same_Some U T h)))
only_told (object_type U w ns (object_type V v ms others)) T h = some_none (sym h)

module _ (name : ℕ → List ℕ) (alias : List ℕ) where
  named_either : (b q : Bool) (U T : ℕ) (json : Option Data) (rest : Option ℕ) → is_text (name U) json ≡ b → cond b (Some U) rest ≡ Some T
      → (rest ≡ Some T → (q ≡ true) × (json ≡ Some (string (name T)))) → ((eqb U T || q) ≡ true) × (json ≡ Some (string (name T)))
  named_either true q U T json rest e k later = (ap (λ (x : Bool). x || q) (eq-eqb U T (same_Some U T k)), text_read (name U) json e ∙ ap (λ (x : ℕ). Some (string (name x))) (same_Some U T k))
  named_either false q U T json rest e k later = (ap (λ (x : Bool). eqb U T || x) (later k).0 ∙ or_true (eqb U T), (later k).1)
    where
      or_true : (b : Bool) → (b || true) ≡ true
      or_true true = refl
      or_true false = refl

  named_told : (possible : ObjectTypes) (json : Option Data) (T : ℕ) → type_named name alias possible json ≡ Some T → (is_possible T possible ≡ true) × (json ≡ Some (string (name T)))
  named_told no_type json T h = some_none (sym h)
  named_told (object_type U w ns others) json T h = named_either (is_text (name U) json) (is_possible T others) U T json (type_named name alias others json) refl h (named_told others json T)

  pub told_type : (asked : Bool) (possible : ObjectTypes) (ms : Members) (T : ℕ) → type_told name alias asked possible ms ≡ Some T → IsOfType name alias asked possible ms T × (is_possible T possible ≡ true)
  told_type false possible ms T h = only_told possible T h
  told_type true possible ms T h = (named_told possible (get_member alias ms) T h, (named_told possible (get_member alias ms) T h).0)

  known_keys : (asked : Bool) (nodes : Nodes) (ms : Members) → keys_known alias asked nodes ms ≡ true → KeysKnown name alias asked nodes ms
  known_keys asked nodes no_members h = tt
  known_keys asked nodes (member k d ms) h =
      let both = and_parts (has_key k nodes || (asked && bytes_eq k alias)) (keys_known alias asked nodes ms) h in
      (both.0, known_keys asked nodes ms both.1)

module _ (holds : ℕ → Data → Bool) where
  leaf_told : (type : LeafType) (fill json : Data) → is_leaf holds type fill json ≡ true → IsLeafOf holds type fill json
  leaf_told type_name json_null json h = absurd (true≢false (sym h))
  leaf_told type_name (boolean b) json h = absurd (true≢false (sym h))
  leaf_told type_name (number n) json h = absurd (true≢false (sym h))
  leaf_told type_name (string s) json h = data_same json (string s) (text_read s (Some json) h)
    where
      data_same : (a b : Data) → Some a ≡ Some b → a ≡ b
      data_same a b h = ap value h
        where
          value : Option Data → Data
          value None = json_null
          value (Some d) = d
  leaf_told type_name (array ds) json h = absurd (true≢false (sym h))
  leaf_told type_name (json_object ms) json h = absurd (true≢false (sym h))
  leaf_told (numbered type) fill json h = h

counted : (below : Data → Tree) (ds : Items) → count (items_tree below ds) ≡ items_len ds
counted below no_items = refl
counted below (item d ds) = ap suc (counted below ds)

within : (size : Option ℕ) (n m : ℕ) → m ≡ n → size_fault size n ≡ None → IsWithin size m
within None n m e h = tt
within (Some size) n m e h = by_test (leb n size) refl h
  where
    by_test : (b : Bool) → leb n size ≡ b → cond b None (Some (size_broken [] size n)) ≡ None → m ≤ size
    by_test true t h = let most = leb-true n size t in omega arith
    by_test false t h = some_none h

module _ (holds : ℕ → Data → Bool) (name : ℕ → List ℕ) (alias : List ℕ) where
  record ObjectReads (asked : Bool) (nodes : Nodes) (ms : Members) (es : Entries) : Type 0 where
    known : KeysKnown name alias asked nodes ms
    read : EntriesRead name alias nodes ms es
    fit : EntriesFit holds nodes es
    kept : EntriesKept nodes es

  -- a value reads, fits and keeps the sizes at its place
  pub record ValueReads (form : Form) (asked : Bool) (plan : Plan) (size : Option ℕ) (d : Data) (t : Tree) : Type 0 where
    pub read : Reads name alias form asked plan d t
    pub fit : Fits holds form plan t
    pub kept : SizesKept size plan t

  record ItemsRead (nullable asked : Bool) (plan : Plan) (ds : Items) (ts : Elements) : Type 0 where
    read : ElementsRead name alias nullable asked plan ds ts
    fit : ElementsFit holds nullable plan ts
    kept : ElementsKept plan ts

  abbrev SingleReads : Bool → Plan → Type 0
  SingleReads asked plan = (n : Bool) (size : Option ℕ) (d : Data) → is_null d ≡ false → value_fault holds name alias asked plan d ≡ None → ValueReads (single n) asked plan size d (value_tree name alias asked plan d)

  null_reads : (b : Bool) (form : Form) (asked : Bool) (plan : Plan) (size : Option ℕ) (nullable : Bool) (d : Data) (later : Option Fault) (t : Tree)
      → is_null d ≡ b → may_be_null form ≡ nullable → cond b (tested nullable NullHere None) later ≡ None → (is_null d ≡ false → later ≡ None → ValueReads form asked plan size d t) → ValueReads form asked plan size d (cond b null t)
  null_reads true form asked plan size nullable d later t e m h inner = record { read = is_json_null d e; fit = m ∙ (held nullable NullHere None h).0; kept = tt }
  null_reads false form asked plan size nullable d later t e m h inner = inner e h

  items_read : (asked : Bool) (plan : Plan) → SingleReads asked plan → (nullable : Bool) (n : ℕ) (ds : Items) → items_fault (λ v. value_fault holds name alias asked plan v) nullable n ds ≡ None
      → ItemsRead nullable asked plan ds (items_tree (λ v. value_tree name alias asked plan v) ds)
  items_read asked plan single_reads nullable n no_items h = record { read = tt; fit = tt; kept = tt }
  items_read asked plan single_reads nullable n (item d ds) h =
      let both = both_none (at_step (item_step n) (null_fault nullable (value_fault holds name alias asked plan d) d)) (items_fault (λ v. value_fault holds name alias asked plan v) nullable (suc n) ds) h in
      let first = null_reads (is_null d) (single nullable) asked plan None nullable d (value_fault holds name alias asked plan d) (value_tree name alias asked plan d) refl refl
      (step_none (item_step n) (null_fault nullable (value_fault holds name alias asked plan d) d) both.0) (single_reads nullable None d) in
      let rest = items_read asked plan single_reads nullable (suc n) ds both.1 in
      record { read = (first.read, rest.read); fit = (first.fit, rest.fit); kept = (first.kept, rest.kept) }

  list_reads : (asked : Bool) (plan : Plan) → SingleReads asked plan → (nullable item_nullable : Bool) (size : Option ℕ) (d : Data) → list_fault (λ v. value_fault holds name alias asked plan v) item_nullable size d ≡ None
      → ValueReads (listed nullable item_nullable) asked plan size d (list_tree (λ v. value_tree name alias asked plan v) d)
  list_reads asked plan single_reads nullable i size json_null h = some_none h
  list_reads asked plan single_reads nullable i size (boolean b) h = some_none h
  list_reads asked plan single_reads nullable i size (number n) h = some_none h
  list_reads asked plan single_reads nullable i size (string s) h = some_none h
  list_reads asked plan single_reads nullable i size (array ds) h =
      let both = both_none (size_fault size (items_len ds)) (items_fault (λ v. value_fault holds name alias asked plan v) i 0 ds) h in
      let items = items_read asked plan single_reads i 0 ds both.1 in
      record {
        read = (ds, refl, items.read);
        fit = items.fit;
        kept = (within size (items_len ds) (count (items_tree (λ v. value_tree name alias asked plan v) ds)) (counted (λ v. value_tree name alias asked plan v) ds) both.0, items.kept);
      }
  list_reads asked plan single_reads nullable i size (json_object ms) h = some_none h

  pub place_reads : (form : Form) (asked : Bool) (plan : Plan) → SingleReads asked plan → (size : Option ℕ) (d : Data) → place_fault (λ v. value_fault holds name alias asked plan v) form size d ≡ None
      → ValueReads form asked plan size d (place_tree (λ v. value_tree name alias asked plan v) form d)
  place_reads (single nullable) asked plan single_reads size d h =
      null_reads (is_null d) (single nullable) asked plan size nullable d (value_fault holds name alias asked plan d) (value_tree name alias asked plan d) refl refl h (single_reads nullable size d)
  place_reads (listed nullable i) asked plan single_reads size d h =
      null_reads (is_null d) (listed nullable i) asked plan size nullable d (list_fault (λ v. value_fault holds name alias asked plan v) i size d) (list_tree (λ v. value_tree name alias asked plan v) d) refl refl h
      (λ some passed. list_reads asked plan single_reads nullable i size d passed)

  chosen : (asked : Bool) (b q : Bool) (f g : Option Fault) (ns os : Nodes) (ms : Members) (es fs : Entries) → (b || q) ≡ true → cond b f g ≡ None
      → (f ≡ None → ObjectReads asked ns ms es) → (q ≡ true → g ≡ None → ObjectReads asked os ms fs) → ObjectReads asked (cond b ns os) ms (cond b es fs)
  chosen asked true q f g ns os ms es fs p h here later = here h
  chosen asked false q f g ns os ms es fs p h here later = later p h

  object_reads : (asked : Bool) (possible : ObjectTypes) (ms : Members) (o : Option ℕ) (size : Option ℕ) (n : Bool) → type_told name alias asked possible ms ≡ o
      → given o BadType (λ T. object_fault holds name alias asked T possible ms) ≡ None
      → ((T : ℕ) → is_possible T possible ≡ true → object_fault holds name alias asked T possible ms ≡ None → ObjectReads asked (nodes_of T possible) ms (object_entries name alias T possible ms))
      → ValueReads (single n) asked (position possible) size (json_object ms) (tree_of o (λ T. object T (object_entries name alias T possible ms)))
  object_reads asked possible ms None size n e h inner = some_none h
  object_reads asked possible ms (Some T) size n e h inner =
      let told = told_type name alias asked possible ms T e in
      let found = inner T told.1 h in
      record { read = (ms, refl, told.0, found.known, found.read); fit = (told.1, found.fit); kept = found.kept }

  member_reads : (form : Form) (asked : Bool) (plan : Plan) (size : Option ℕ) (o : Option Data) (ms : Members) (k : List ℕ) → get_member k ms ≡ o → SingleReads asked plan
      → given o MissingKey (λ d. place_fault (λ v. value_fault holds name alias asked plan v) form size d) ≡ None
      → (d : Data) × (get_member k ms ≡ Some d) × ValueReads form asked plan size d (tree_of o (λ d. place_tree (λ v. value_tree name alias asked plan v) form d))
  member_reads form asked plan size None ms k e single_reads h = some_none h
  member_reads form asked plan size (Some d) ms k e single_reads h = (d, e, place_reads form asked plan single_reads size d h)

  record EntriesPass (nodes : Nodes) (ms : Members) (es : Entries) : Type 0 where
    read : EntriesRead name alias nodes ms es
    fit : EntriesFit holds nodes es
    kept : EntriesKept nodes es

  mutual
    pub value_reads : (asked : Bool) (plan : Plan) → SingleReads asked plan
    value_reads asked (leaf_plan type weight fill) n size d some h = record { read = (some, refl); fit = (some, leaf_told holds type fill d (held (is_leaf holds type fill d) BadLeaf None h).0); kept = tt }
    value_reads asked (position possible) n size json_null some h = some_none h
    value_reads asked (position possible) n size (boolean b) some h = some_none h
    value_reads asked (position possible) n size (number x) some h = some_none h
    value_reads asked (position possible) n size (string s) some h = some_none h
    value_reads asked (position possible) n size (array ds) some h = some_none h
    value_reads asked (position possible) n size (json_object ms) some h =
        object_reads asked possible ms (type_told name alias asked possible ms) size n refl h (λ T p k. types_read asked possible T ms p k)

    types_read : (asked : Bool) (possible : ObjectTypes) (T : ℕ) (ms : Members) → is_possible T possible ≡ true → object_fault holds name alias asked T possible ms ≡ None
        → ObjectReads asked (nodes_of T possible) ms (object_entries name alias T possible ms)
    types_read asked no_type T ms p h = absurd (true≢false (sym p))
    types_read asked (object_type U weight nodes others) T ms p h =
        chosen asked (eqb U T) (is_possible T others) (tested (keys_known alias asked nodes ms) ExtraKey (entries_fault holds name alias nodes ms)) (object_fault holds name alias asked T others ms)
        nodes (nodes_of T others) ms (member_entries name alias nodes ms) (object_entries name alias T others ms) p h
        (λ k. let both = held (keys_known alias asked nodes ms) ExtraKey (entries_fault holds name alias nodes ms) k in
        let inner = entries_read nodes ms both.1 in
        record { known = known_keys name alias asked nodes ms both.0; read = inner.read; fit = inner.fit; kept = inner.kept })
        (λ q k. types_read asked others T ms q k)

    entries_read : (nodes : Nodes) (ms : Members) → entries_fault holds name alias nodes ms ≡ None → EntriesPass nodes ms (member_entries name alias nodes ms)
    entries_read no_node ms h = record { read = tt; fit = tt; kept = tt }
    entries_read (node s below others) ms h =
        let own = given (get_member s.key ms) MissingKey (λ d. place_fault (λ v. value_fault holds name alias s.asked below v) s.form s.size d) in
        let both = both_none (at_step (key_step s.key) own) (entries_fault holds name alias others ms) h in
        let first = member_reads s.form s.asked below s.size (get_member s.key ms) ms s.key refl (value_reads s.asked below) (step_none (key_step s.key) own both.0) in
        let rest = entries_read others ms both.1 in
        record { read = (refl, (first.0, first.1, first.2.read), rest.read); fit = (refl, first.2.fit, rest.fit); kept = (first.2.kept, rest.kept) }

  -- so does the data of a reply
  pub content_reads : (plan : Plan) (errors : List ResponseError) (o : Option Data) → content_fault holds name alias plan errors o ≡ None
      → DataReads name alias plan errors o (option_map (data_tree name alias plan) o) × IsResponseOrNone holds plan (option_map (data_tree name alias plan) o)
  content_reads plan [] None h = some_none h
  content_reads plan (e ∷ es) None h = (some_length e es, tt)
    where
      some_length : (e : ResponseError) (es : List ResponseError) → 0 < length (e ∷ es)
      some_length e es = omega arith
  content_reads plan [] (Some d) h = let v = place_reads (single true) false plan (value_reads false plan) None d h in (v.read, (v.fit, v.kept))
  content_reads plan (e ∷ es) (Some d) h = let v = place_reads (single true) false plan (value_reads false plan) None d h in (v.read, (v.fit, v.kept))

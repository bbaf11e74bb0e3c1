-- A value that reads, fits and keeps the declared sizes passes every test.
use Rattle.std.proofs.Common.{◌≡◌, ◌≤◌, ℕ, suc, List, [], Bool, true, false, true≢false, cond, ◌||◌, ◌&&◌, eqb, bytes_eq, Option, Some, None, refl, sym, ap, ◌∙◌, arith, eqb-true, eq-eqb}
use Rattle.std.proofs.lemmas.Bool.{le-leb}
use Rattle.std.proofs.lemmas.Slice.Eq.{bytes_eq-Decides}
use Rattle.std.specs.Option.{option_or}
use Rattle.serde_json.specs.Data.{Data, null as json_null, boolean, number, string, array, object as json_object, Items, no_items, item, Members, no_members, member}
use Rattle.serde_json.specs.Find.{get_member}
use Rattle.serde_json.specs.Events.{items_len}
use Rattle.response_model.specs.Plan.{Form, single, listed, LeafType, type_name, numbered, Plan, leaf_plan, position, ObjectTypes, no_type, object_type, Nodes, no_node, node, is_possible, nodes_of}
use Rattle.response_model.specs.Response.{Tree, null, leaf, list_of, object, Elements, no_element, element, Entries, no_entry, entry, count, is_null, IsLeafOf, Fits, EntriesFit, ElementsFit, IsWithin, SizesKept, EntriesKept, ElementsKept}
use Rattle.response_model.specs.Reading.{IsOnlyType, IsOfType, KeysKnown, Reads, EntriesRead, ElementsRead}
use Rattle.response_meter.specs.declared.fault.Why.{Why}
use Rattle.response_meter.specs.declared.fault.Why.TheVariants.{MissingKey, ExtraKey, NullHere, BadLeaf, BadType}
use Rattle.response_meter.specs.Faults.{Fault, size_broken, key_step, item_step, at_step, tested, given}
use Rattle.response_meter.specs.FirstFault.{null_fault, size_fault, items_fault, list_fault, place_fault, only_type, is_text, keys_known, is_leaf, type_named, type_told, value_fault, object_fault, entries_fault, IsFilled, HaveNames, AreNamed, TypesNamed, NodesNamed}

-- tests that hold
passes : (b : Bool) (why : Why) (later : Option Fault) → b ≡ true → later ≡ None → tested b why later ≡ None
passes true why later e h = h
passes false why later e h = absurd (true≢false (sym e))

neither : (f g : Option Fault) → f ≡ None → g ≡ None → option_or f g ≡ None
neither f g e h = ap (λ (x : Option Fault). option_or x g) e ∙ h

not_null : {A : Type 0} (d : Data) → d ≡ json_null → is_null d ≡ false → A
not_null d e h = absurd (true≢false (sym (ap is_null e) ∙ h))

same_text : (s t : List ℕ) → s ≡ t → bytes_eq s t ≡ true
same_text s t e = (bytes_eq-Decides s t).1 e

-- the type that an object says is the one that it reads as
told_only : (possible : ObjectTypes) (T : ℕ) → IsOnlyType T possible → only_type possible ≡ Some T
told_only no_type T h = absurd h
told_only (object_type U w ns no_type) T h = ap Some h
told_only (object_type U w ns (object_type V v ms others)) T h = absurd h

or_true : (b : Bool) → b || true ≡ true
or_true true = refl
or_true false = refl

module _ (name : ℕ → List ℕ) (alias : List ℕ) where
  named_here : (b q : Bool) (U T : ℕ) (rest : Option ℕ) → (name U ≡ name T → U ≡ T) → bytes_eq (name U) (name T) ≡ b → (eqb U T || q) ≡ true → (q ≡ true → rest ≡ Some T) → cond b (Some U) rest ≡ Some T
  named_here true q U T rest differ e p later = ap Some (differ ((bytes_eq-Decides (name U) (name T)).0 e))
  named_here false q U T rest differ e p later = later (behind (eqb U T) refl p)
    where
      behind : (b : Bool) → eqb U T ≡ b → (b || q) ≡ true → q ≡ true
      behind true same h = absurd (true≢false (sym (same_text (name U) (name T) (ap name (eqb-true U T same))) ∙ e))
      behind false same h = h

  told_named : (possible : ObjectTypes) (T : ℕ) → HaveNames name possible → is_possible T possible ≡ true → type_named name alias possible (Some (string (name T))) ≡ Some T
  told_named no_type T differ p = absurd (true≢false (sym p))
  told_named (object_type U w ns others) T differ p =
      named_here (bytes_eq (name U) (name T)) (is_possible T others) U T (type_named name alias others (Some (string (name T))))
      (differ U T (ap (λ (b : Bool). b || is_possible U others) (eq-eqb U U refl)) p) refl p
      (told_named others T (λ V W v w. differ V W (later V v) (later W w)))
    where
      later : (V : ℕ) → is_possible V others ≡ true → is_possible V (object_type U w ns others) ≡ true
      later V v = ap (λ (b : Bool). eqb U V || b) v ∙ or_true (eqb U V)

  pub type_read : (asked : Bool) (possible : ObjectTypes) (ms : Members) (T : ℕ) → HaveNames name possible → IsOfType name alias asked possible ms T → type_told name alias asked possible ms ≡ Some T
  type_read false possible ms T differ h = told_only possible T h
  type_read true possible ms T differ h = ap (type_named name alias possible) h.1 ∙ told_named possible T differ h.0

  keys_pass : (asked : Bool) (nodes : Nodes) (ms : Members) → KeysKnown name alias asked nodes ms → keys_known alias asked nodes ms ≡ true
  keys_pass asked nodes no_members h = refl
  keys_pass asked nodes (member k d ms) h = ap (λ (b : Bool). b && keys_known alias asked nodes ms) h.0 ∙ keys_pass asked nodes ms h.1

module _ (holds : ℕ → Data → Bool) where
  leaf_passes : (type : LeafType) (weight : ℕ) (fill json : Data) → IsFilled type fill → IsLeafOf holds type fill json → is_leaf holds type fill json ≡ true
  leaf_passes type_name weight json_null json n h = absurd n
  leaf_passes type_name weight (boolean b) json n h = absurd n
  leaf_passes type_name weight (number x) json n h = absurd n
  leaf_passes type_name weight (string s) json n h = ap (λ (d : Data). is_text s (Some d)) h ∙ same_text s s refl
  leaf_passes type_name weight (array ds) json n h = absurd n
  leaf_passes type_name weight (json_object ms) json n h = absurd n
  leaf_passes (numbered type) weight fill json n h = h

size_passes : (size : Option ℕ) (n m : ℕ) → m ≡ n → IsWithin size m → size_fault size n ≡ None
size_passes None n m e h = refl
size_passes (Some size) n m e h = let most : n ≤ size = omega arith in ap (λ (b : Bool). cond b None (Some (size_broken [] size n))) (le-leb n size most)

module _ (holds : ℕ → Data → Bool) (name : ℕ → List ℕ) (alias : List ℕ) where
  abbrev SinglePasses : Bool → Plan → Type 0
  SinglePasses asked plan = (n : Bool) (size : Option ℕ) (d : Data) (t : Tree) → is_null d ≡ false → Reads name alias (single n) asked plan d t → Fits holds (single n) plan t → SizesKept size plan t
      → value_fault holds name alias asked plan d ≡ None

  -- null, where it reads, stands where it may
  null_fits : (n asked : Bool) (plan : Plan) (d : Data) (t : Tree) → is_null d ≡ true → Reads name alias (single n) asked plan d t → Fits holds (single n) plan t → n ≡ true
  null_fits n asked plan d null e r f = f
  null_fits n asked (leaf_plan type w fill) d (leaf v) e r f = absurd (true≢false (sym e ∙ r.0))
  null_fits n asked (position possible) d (leaf v) e r f = absurd r
  null_fits n asked plan d (list_of ts) e r f = absurd r
  null_fits n asked (leaf_plan type w fill) d (object T es) e r f = absurd r
  null_fits n asked (position possible) d (object T es) e r f = absurd (true≢false (sym e ∙ ap is_null r.1))

  single_passes : (asked : Bool) (plan : Plan) → SinglePasses asked plan → (b n : Bool) (size : Option ℕ) (d : Data) (t : Tree) → is_null d ≡ b → Reads name alias (single n) asked plan d t → Fits holds (single n) plan t
      → SizesKept size plan t → cond b (tested n NullHere None) (value_fault holds name alias asked plan d) ≡ None
  single_passes asked plan each true n size d t e r f k = passes n NullHere None (null_fits n asked plan d t e r f) refl
  single_passes asked plan each false n size d t e r f k = each n size d t e r f k

  elements_pass : (asked : Bool) (plan : Plan) → SinglePasses asked plan → (nullable : Bool) (n : ℕ) (ds : Items) (ts : Elements) → ElementsRead name alias nullable asked plan ds ts → ElementsFit holds nullable plan ts
      → ElementsKept plan ts → (items_fault (λ v. value_fault holds name alias asked plan v) nullable n ds ≡ None) × (count ts ≡ items_len ds)
  elements_pass asked plan each nullable n no_items no_element r f k = (refl, refl)
  elements_pass asked plan each nullable n no_items (element t ts) r f k = absurd r
  elements_pass asked plan each nullable n (item d ds) no_element r f k = absurd r
  elements_pass asked plan each nullable n (item d ds) (element t ts) r f k =
      let first = single_passes asked plan each (is_null d) nullable None d t refl r.0 f.0 k.0 in
      let rest = elements_pass asked plan each nullable (suc n) ds ts r.1 f.1 k.1 in (
        neither (at_step (item_step n) (null_fault nullable (value_fault holds name alias asked plan d) d)) (items_fault (λ v. value_fault holds name alias asked plan v) nullable (suc n) ds) (ap (at_step (item_step n)) first) rest.0,
        ap suc rest.1,
      )

  list_passes : (asked : Bool) (plan : Plan) → SinglePasses asked plan → (nullable i : Bool) (size : Option ℕ) (d : Data) (ds : Items) (ts : Elements) → d ≡ array ds → ElementsRead name alias i asked plan ds ts → ElementsFit holds i plan ts
      → IsWithin size (count ts) → ElementsKept plan ts → null_fault nullable (list_fault (λ v. value_fault holds name alias asked plan v) i size d) d ≡ None
  list_passes asked plan each nullable i size d ds ts e r f w k =
      let inside = elements_pass asked plan each i 0 ds ts r f k in
      ap (λ (x : Data). null_fault nullable (list_fault (λ v. value_fault holds name alias asked plan v) i size x) x) e
      ∙ neither (size_fault size (items_len ds)) (items_fault (λ v. value_fault holds name alias asked plan v) i 0 ds) (size_passes size (items_len ds) (count ts) inside.1 w) inside.0

  pub place_passes : (form : Form) (asked : Bool) (plan : Plan) → SinglePasses asked plan → (size : Option ℕ) (d : Data) (t : Tree) → Reads name alias form asked plan d t → Fits holds form plan t → SizesKept size plan t
      → place_fault (λ v. value_fault holds name alias asked plan v) form size d ≡ None
  place_passes (single n) asked plan each size d t r f k = single_passes asked plan each (is_null d) n size d t refl r f k
  place_passes (listed n i) asked plan each size d null r f k =
      ap (λ (x : Data). null_fault n (list_fault (λ v. value_fault holds name alias asked plan v) i size x) x) r ∙ passes n NullHere None f refl
  place_passes (listed n i) asked plan each size d (leaf v) r f k = absurd r
  place_passes (listed n i) asked plan each size d (list_of ts) r f k = list_passes asked plan each n i size d r.0 ts r.1 r.2 f k.0 k.1
  place_passes (listed n i) asked plan each size d (object T es) r f k = absurd r

  record EntriesAre (asked : Bool) (ms : Members) (es : Entries) (nodes : Nodes) : Type 0 where
    known : KeysKnown name alias asked nodes ms
    read : EntriesRead name alias nodes ms es
    fit : EntriesFit holds nodes es
    kept : EntriesKept nodes es

  either_named : (b : Bool) (f g : Option Fault) (asked : Bool) (ms : Members) (es : Entries) (ns os : Nodes) → EntriesAre asked ms es (cond b ns os) → (EntriesAre asked ms es ns → f ≡ None) → (EntriesAre asked ms es os → g ≡ None)
      → cond b f g ≡ None
  either_named true f g asked ms es ns os p here later = here p
  either_named false f g asked ms es ns os p here later = later p

  mutual
    pub value_passes : (asked : Bool) (plan : Plan) → AreNamed name plan → SinglePasses asked plan
    value_passes asked plan named n size d null some r f k = not_null d r some
    value_passes asked (leaf_plan type w fill) named n size d (leaf v) some r f k =
        passes (is_leaf holds type fill d) BadLeaf None (ap (is_leaf holds type fill) (sym r.1) ∙ leaf_passes holds type w fill v named f.1) refl
    value_passes asked (position possible) named n size d (leaf v) some r f k = absurd r
    value_passes asked plan named n size d (list_of ts) some r f k = absurd r
    value_passes asked (leaf_plan type w fill) named n size d (object T es) some r f k = absurd r
    value_passes asked (position possible) named n size d (object T es) some r f k =
        ap (λ (x : Data). value_fault holds name alias asked (position possible) x) r.1
        ∙ ap (λ (o : Option ℕ). given o BadType (λ U. object_fault holds name alias asked U possible r.0)) (type_read name alias asked possible r.0 T named.0 r.2)
        ∙ types_pass asked possible named.1 T r.0 es (record { known = r.3; read = r.4; fit = f.1; kept = k })

    types_pass : (asked : Bool) (possible : ObjectTypes) → TypesNamed name possible → (T : ℕ) (ms : Members) (es : Entries) → EntriesAre asked ms es (nodes_of T possible) → object_fault holds name alias asked T possible ms ≡ None
    types_pass asked no_type named T ms es p = refl
    types_pass asked (object_type U weight nodes others) named T ms es p =
        either_named (eqb U T) (tested (keys_known alias asked nodes ms) ExtraKey (entries_fault holds name alias nodes ms)) (object_fault holds name alias asked T others ms) asked ms es nodes (nodes_of T others) p
        (λ q. passes (keys_known alias asked nodes ms) ExtraKey (entries_fault holds name alias nodes ms) (keys_pass name alias asked nodes ms q.known) (entries_pass nodes named.0 ms es q.read q.fit q.kept))
        (λ q. types_pass asked others named.1 T ms es q)

    entries_pass : (nodes : Nodes) → NodesNamed name nodes → (ms : Members) (es : Entries) → EntriesRead name alias nodes ms es → EntriesFit holds nodes es → EntriesKept nodes es → entries_fault holds name alias nodes ms ≡ None
    entries_pass no_node named ms es r f k = refl
    entries_pass (node s below others) named ms no_entry r f k = absurd r
    entries_pass (node s below others) named ms (entry key t es) r f k =
        let own = λ (o : Option Data). given o MissingKey (λ d. place_fault (λ v. value_fault holds name alias s.asked below v) s.form s.size d) in
        let first : own (get_member s.key ms) ≡ None = ap own r.1.1 ∙ place_passes s.form s.asked below (value_passes s.asked below named.0) s.size r.1.0 t r.1.2 f.1 k.0 in
        neither (at_step (key_step s.key) (own (get_member s.key ms))) (entries_fault holds name alias others ms) (ap (at_step (key_step s.key)) first) (entries_pass others named.1 ms es r.2 f.2 k.1)

-- The errors of a response, read and written.
use Rattle.std.proofs.Common.{◌≡◌, ◌<◌, ◌≤◌, ◌+◌, ℕ, List, [], ◌∷◌, ◌++◌, length, drop, get_or, true, false, true≢false, ◌||◌, is_some, codes, option_map, option_and_then, Option, Some, None, refl, sym, ap, ◌∙◌, subst, append_assoc, append-nil}
use Rattle.std.proofs.lemmas.List.{drop_all}
use Rattle.serde_json.specs.Data.{Data, null as json_null, boolean, number, string, array, object as json_object, unsigned, negative, float, Items, no_items, item}
use Rattle.serde_json.specs.Find.{get, as_str, as_array}
use Rattle.serde_json.specs.Written.{has_float, items_have_float, compact_text}
use Rattle.serde_json.specs.View.{view, items_view}
use Rattle.serde_json.specs.declared.value.Value.{Value}
use Rattle.response_model.specs.Errors.{PathSegment, key_segment, index_segment, ResponseError, pathless, read_then, segment_of, segments_of, path_of, error_of, error_from, errors_in, has_errors}
use Rattle.response_model.specs.ResponseText.{comma, segment_json, segments_json, path_text, error_text, errors_text, errors_part, response_text}
use Rattle.response_model.proofs.Pieces.{text_left, items_from}

-- a path that is well formed has no floats, and is written as its steps
record Stepped (ds : Items) : Type 0 where
  steps : List PathSegment
  read : segments_of ds ≡ Some steps
  no_float : items_have_float ds ≡ false
  same : segments_json steps ≡ ds

false_true : {A : Type 0} → true ≡ false → A
false_true h = absurd (true≢false h)

step_before : (d : Data) (s : PathSegment) (ds : Items) → segment_of d ≡ Some s → has_float d ≡ false → segment_json s ≡ d → Stepped ds → Stepped (item d ds)
step_before d s ds r f e rest = record {
  steps = s ∷ rest.steps;
  read = ap (λ o. read_then o (segments_of ds)) r ∙ ap (read_then (Some s)) rest.read;
  no_float = ap (λ b. b || items_have_float ds) f ∙ rest.no_float;
  same = ap (λ x. item x (segments_json rest.steps)) e ∙ ap (item d) rest.same;
}

some_later : (s : PathSegment) (o : Option (List PathSegment)) → true ≡ is_some (read_then (Some s) o) → true ≡ is_some o
some_later s None h = h
some_later s (Some ss) h = refl

stepped : (ds : Items) → true ≡ is_some (segments_of ds) → Stepped ds
stepped no_items h = record { steps = []; read = refl; no_float = refl; same = refl }
stepped (item json_null ds) h = false_true h
stepped (item (boolean b) ds) h = false_true h
stepped (item (number (unsigned n)) ds) h = step_before (number (unsigned n)) (index_segment n) ds refl refl refl (stepped ds (some_later (index_segment n) (segments_of ds) h))
stepped (item (number (negative z)) ds) h = false_true h
stepped (item (number (float x)) ds) h = false_true h
stepped (item (string s) ds) h = step_before (string s) (key_segment s) ds refl refl refl (stepped ds (some_later (key_segment s) (segments_of ds) h))
stepped (item (array es) ds) h = false_true h
stepped (item (json_object ms) ds) h = false_true h

pub path_written : (before mid after : List ℕ) (d : Data) → true ≡ is_some (option_and_then segments_of (as_array d)) → mid ≡ before ++ codes ",\"path\":" → (has_float d ≡ false → after ≡ mid ++ compact_text d)
    → (p : Option (List PathSegment)) × (path_of (Some d) ≡ Some p) × (after ≡ before ++ path_text p)
path_written before mid after json_null h e w = false_true h
path_written before mid after (boolean b) h e w = false_true h
path_written before mid after (number n) h e w = false_true h
path_written before mid after (string s) h e w = false_true h
path_written before mid after (array ds) h e w =
    let s = stepped ds h in (
      Some s.steps,
      ap (option_map Some) s.read,
      w s.no_float ∙ ap (λ x. x ++ compact_text (array ds)) e ∙ append_assoc before (codes ",\"path\":") (compact_text (array ds)) ∙ ap (λ x. before ++ (codes ",\"path\":" ++ compact_text (array x))) (sym s.same),
    )
path_written before mid after (json_object ms) h e w = false_true h

text_of_error : (a b c d e m p q r s : List ℕ) → b ≡ a ++ m → c ≡ b ++ p → d ≡ c ++ q → e ≡ d ++ r → s ≡ m ++ p ++ q ++ r → e ≡ a ++ s
text_of_error a b c d e m p q r s w x y z t =
    z ∙ ap (λ u. u ++ r) (y ∙ ap (λ u. u ++ q) (x ∙ ap (λ u. u ++ p) w ∙ append_assoc a m p) ∙ append_assoc a (m ++ p) q) ∙ append_assoc a (m ++ p ++ q) r ∙ ap (λ u. a ++ u) (sym t)

pub error_written : (a b c d e : List ℕ) (json m : Data) (o : Option Data) → Some m ≡ get (codes "message") json → true ≡ is_some (as_str m) → b ≡ a ++ codes "{\"message\":"
    → (has_float m ≡ false → c ≡ b ++ compact_text m) → o ≡ get (codes "path") json → (p : Option (List PathSegment)) × (path_of o ≡ Some p) × (d ≡ c ++ path_text p) → e ≡ d ++ codes "}"
    → (x : ResponseError) × (error_of json ≡ Some x) × (e ≡ a ++ error_text x)
error_written a b c d e json json_null o f h w x q p z = false_true h
error_written a b c d e json (boolean v) o f h w x q p z = false_true h
error_written a b c d e json (number n) o f h w x q p z = false_true h
error_written a b c d e json (string s) o f h w x q p z = (
  record { message = s; path = p.0 },
  ap (λ m. error_from (option_and_then as_str m) (path_of (get (codes "path") json))) (sym f) ∙ ap (error_from (Some s)) (ap path_of (sym q) ∙ p.1),
  text_of_error a b c d e (codes "{\"message\":") (compact_text (string s)) (path_text p.0) (codes "}") _ w (x refl) p.2 z refl,
)
error_written a b c d e json (array ds) o f h w x q p z = false_true h
error_written a b c d e json (json_object ms) o f h w x q p z = false_true h

-- what is left of the errors gives the whole
pub record ErrorsLeft (before now front : List ℕ) (rest all : Items) : Type 0 where
  pub fails : errors_in rest ≡ None → errors_in all ≡ None
  pub reads : (es : List ResponseError) → errors_in rest ≡ Some es → (fs : List ResponseError) × (errors_in all ≡ Some fs) × (now ++ errors_text front es ≡ before ++ errors_text [] fs)

pub errors_begin : (before : List ℕ) (all : Items) → ErrorsLeft before before [] all all
errors_begin before all = record { fails = λ h. h; reads = λ es h. (es, h, refl) }

one_more : (before now mid after front : List ℕ) (d : Data) (x : ResponseError) (ds all : Items) → ErrorsLeft before now front (item d ds) all → mid ≡ now ++ front → error_of d ≡ Some x → after ≡ mid ++ error_text x
    → ErrorsLeft before after comma ds all
one_more before now mid after front d x ds all l e r w = record {
  fails = λ h. l.fails (ap (λ o. read_then o (errors_in ds)) r ∙ ap (read_then (Some x)) h);
  reads = λ es h.
      let found = l.reads (x ∷ es) (ap (λ o. read_then o (errors_in ds)) r ∙ ap (read_then (Some x)) h) in
      (found.0, found.1, text_left before now mid after front (error_text x) (errors_text comma es) (errors_text [] found.0) found.2 e w);
}

pub errors_step : (before now mid after front : List ℕ) (items : List Value) (i : ℕ) (v : Value) → i < length items → v ≡ get_or items i v
    → ErrorsLeft before now front (items_view (drop i items)) (items_view items) → mid ≡ now ++ front → (x : ResponseError) × (error_of (view v) ≡ Some x) × (after ≡ mid ++ error_text x)
    → ErrorsLeft before after comma (items_view (drop (i + 1) items)) (items_view items)
errors_step before now mid after front items i v less is l e w =
    one_more before now mid after front (view v) w.0 (items_view (drop (i + 1) items)) (items_view items)
    (subst (λ (rest : Items). ErrorsLeft before now front rest (items_view items)) (items_from items i v less is) l) e w.1 w.2

pub errors_end : (before now after front : List ℕ) (items : List Value) (i : ℕ) → length items ≤ i → ErrorsLeft before now front (items_view (drop i items)) (items_view items) → after ≡ now ++ codes "]"
    → (es : List ResponseError) × (errors_in (items_view items) ≡ Some es) × (after ≡ before ++ errors_text [] es)
errors_end before now after front items i most l e =
    let done = subst (λ (rest : List Value). ErrorsLeft before now front (items_view rest) (items_view items)) (drop_all i items most) l in
    let found = done.reads [] refl in
    (found.0, found.1, e ∙ found.2)

-- some items have some errors
some_then : (o : Option ResponseError) (p : Option (List ResponseError)) (es : List ResponseError) → read_then o p ≡ Some es → true ≡ has_errors es
some_then o p [] h = absurd (no_front o p h)
  where
    no_front : (o : Option ResponseError) (p : Option (List ResponseError)) → read_then o p ≡ Some [] → ⊥
    no_front None p h = cc
    no_front (Some x) None h = cc
    no_front (Some x) (Some xs) h = cc
some_then o p (e ∷ es) h = refl

pub some_errors : (items : List Value) (es : List ResponseError) → (length items ≡ 0 → ⊥) → errors_in (items_view items) ≡ Some es → true ≡ has_errors es
some_errors [] es h r = absurd (h refl)
some_errors (v ∷ vs) es h r = some_then (error_of (view v)) (errors_in (items_view vs)) es r

pub part_written : (before mid after : List ℕ) (es : List ResponseError) → true ≡ has_errors es → mid ≡ before ++ codes "\"errors\":[" → after ≡ mid ++ errors_text [] es → after ≡ before ++ errors_part es
part_written before mid after [] h e w = absurd (true≢false h)
part_written before mid after (x ∷ es) h e w = w ∙ ap (λ u. u ++ errors_text [] (x ∷ es)) e ∙ append_assoc before (codes "\"errors\":[") (errors_text [] (x ∷ es))

-- a response of one error, written in three pieces
closed : (q : List ℕ) → ((((q ++ []) ++ codes "}") ++ codes "]") ++ []) ++ codes "}" ≡ q ++ codes "}]}"
closed q =
    ap (λ x. (((x ++ codes "}") ++ codes "]") ++ []) ++ codes "}") (append-nil q)
    ∙ ap (λ x. x ++ codes "}") (append-nil ((q ++ codes "}") ++ codes "]"))
    ∙ append_assoc (q ++ codes "}") (codes "]") (codes "}")
    ∙ append_assoc q (codes "}") (codes "]}")

pub one_error_written : (a b c d message : List ℕ) → b ≡ a ++ codes "{\"errors\":[{\"message\":" → c ≡ b ++ compact_text (string message) → d ≡ c ++ codes "}]}"
    → d ≡ a ++ response_text None (pathless message ∷ [])
one_error_written a b c d message head quoted end =
    let text = compact_text (string message) in
    end ∙ ap (λ x. x ++ codes "}]}") (quoted ∙ ap (λ x. x ++ text) head) ∙ append_assoc (a ++ codes "{\"errors\":[{\"message\":") text (codes "}]}")
    ∙ append_assoc a (codes "{\"errors\":[{\"message\":") (text ++ codes "}]}") ∙ ap (λ x. a ++ (codes "{\"errors\":[{\"message\":" ++ x)) (sym (closed text))

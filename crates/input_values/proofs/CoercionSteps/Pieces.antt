-- Items and fields, one after another: what was done and what is left come to the whole.
use Rattle.std.proofs.Common.{◌≡◌, ◌+◌, ◌≤◌, ◌<◌, ℕ, suc, List, [], ◌∷◌, ◌++◌, Option, Some, None, Ok, Err, refl, sym, ap, ◌∙◌, subst, arith}
use Rattle.input_values.specs.values.Coerced.{CoercedTree, CoercedTrees, no_coerced, coerced_then, coerced_list, CoercedFields, no_coerced_field, coerced_field_then, coerced_object, NamedTree, trees_from, named_trees_from, nodes, item_nodes, field_nodes}
use Rattle.input_values.specs.values.Counting.{counted}
use Rattle.input_values.specs.declared.values.coerced.Coerced.{Coerced}
use Rattle.input_values.specs.declared.coercion.faults.CoercionFault.{CoercionFault}
use Rattle.input_values.specs.declared.coercion.faults.CoercionFault.TheVariants.{BadValue, Memory}
use Rattle.input_values.specs.coercion.Answers.{Path, Answer, mapped, both, at_step}
use Rattle.input_values.specs.coercion.Objects.{with_field}
use Rattle.input_values.specs.coercion.Calls.{Tells, TellsAfter, Coerces, CoercesField, tree_in, nodes_in}
use Rattle.input_values.specs.coercion.Left.{in_front, put_field, one_item, one_field, ItemsLeft, FieldsLeft}

front_append : {T X : Type 0} (put : T → X → X) (ds es : List T) (x : X) → in_front put (ds ++ es) x ≡ in_front put ds (in_front put es x)
front_append put [] es x = refl
front_append put (d ∷ ds) es x = ap (put d) (front_append put ds es x)

-- a piece was coerced
goes_on : {T X P : Type 0} (put : T → X → X) (add : P → X → X) (done ds : List T) (p : P) (rest whole : Answer X) → ((x : X) → add p x ≡ in_front put ds x)
    → whole ≡ mapped (in_front put done) (both add (Ok p) rest) → whole ≡ mapped (in_front put (done ++ ds)) rest
goes_on put add done ds p (Ok x) whole same h = h ∙ ap Ok (ap (in_front put done) (same x) ∙ sym (front_append put done ds x))
goes_on put add done ds p (Err path) whole same h = h

-- a piece is refused
stops : {T X P : Type 0} (put : T → X → X) (add : P → X → X) (done : List T) (path : Path) (rest whole : Answer X) → whole ≡ mapped (in_front put done) (both add (Err path) rest) → whole ≡ Err path
stops put add done path rest whole h = h

all_trees : (ts : List CoercedTree) → in_front coerced_then ts no_coerced ≡ trees_from ts
all_trees [] = refl
all_trees (t ∷ ts) = ap (coerced_then t) (all_trees ts)

all_fields : (fs : List NamedTree) → in_front put_field fs no_coerced_field ≡ named_trees_from fs
all_fields [] = refl
all_fields (f ∷ fs) = ap (coerced_field_then f.0 f.1) (all_fields fs)

nodes_more : (ts : List CoercedTree) (t : CoercedTree) → item_nodes (trees_from (ts ++ t ∷ [])) ≡ item_nodes (trees_from ts) + nodes t
nodes_more [] t = omega arith
nodes_more (s ∷ ts) t = let h = nodes_more ts t in omega (arith, h)

field_nodes_more : (fs : List NamedTree) (name : List ℕ) (o : Option CoercedTree) → field_nodes (named_trees_from (fs ++ one_field name o)) ≡ field_nodes (named_trees_from fs) + nodes_in o
field_nodes_more [] name None = refl
field_nodes_more [] name (Some t) = omega arith
field_nodes_more (f ∷ fs) name o = let h = field_nodes_more fs name o in omega (arith, h)

within : (limit now mid n : ℕ) → mid ≡ counted limit (now + n) → mid ≤ limit → now ≤ limit
within limit now mid n e h = omega (arith, e, h)

count_more : (limit before now mid n k m : ℕ) → now ≡ counted limit (before + suc k) → mid ≡ counted limit (now + n) → m ≡ k + n → mid ≡ counted limit (before + suc m)
count_more limit before now mid n k m e h p = omega (arith, e, h, p)

-- an item that was coerced
pub item_left : (limit : ℕ) (built more : List CoercedTree) (before now mid : ℕ) (r : Option Coerced) (a : Answer CoercedTree) (rest whole : Answer CoercedTrees)
    → ItemsLeft limit built before now (both coerced_then a rest) whole → Coerces limit now mid (Ok r) a → more ≡ built ++ one_item (tree_in r) → ItemsLeft limit more before mid rest whole
item_left limit built more before now mid r a rest whole l c e = record {
  done = l.done ++ c.0 ∷ [];
  same = goes_on coerced_then coerced_then l.done (c.0 ∷ []) c.0 rest whole (λ x. refl) (l.same ∙ ap (λ b. mapped (in_front coerced_then l.done) (both coerced_then b rest)) c.1);
  count = count_more limit before now mid (nodes c.0) (item_nodes (trees_from l.done)) (item_nodes (trees_from (l.done ++ c.0 ∷ []))) l.count c.2.0 (nodes_more l.done c.0);
  complete = λ h. e ∙ (ap (λ o. built ++ one_item o) (c.2.1 h) ∙ ap (λ d. d ++ c.0 ∷ []) (l.complete (within limit now mid (nodes c.0) c.2.0 h)));
}

-- a field that was coerced, or is absent
pub field_left : (limit : ℕ) (built more : List NamedTree) (name : List ℕ) (before now mid : ℕ) (r : Option Coerced) (add : Option CoercedTree → CoercedFields → CoercedFields) (a : Answer (Option CoercedTree)) (rest whole : Answer CoercedFields)
    → ((o : Option CoercedTree) (x : CoercedFields) → add o x ≡ in_front put_field (one_field name o) x)
    → FieldsLeft limit built before now (both add a rest) whole → CoercesField limit now mid (Ok r) a → more ≡ built ++ one_field name (tree_in r) → FieldsLeft limit more before mid rest whole
field_left limit built more name before now mid r add a rest whole p l c e = record {
  done = l.done ++ one_field name c.0;
  same = goes_on put_field add l.done (one_field name c.0) c.0 rest whole (p c.0) (l.same ∙ ap (λ b. mapped (in_front put_field l.done) (both add b rest)) c.1);
  count = count_more limit before now mid (nodes_in c.0) (field_nodes (named_trees_from l.done)) (field_nodes (named_trees_from (l.done ++ one_field name c.0))) l.count c.2.0 (field_nodes_more l.done name c.0);
  complete = λ h. e ∙ (ap (λ o. built ++ one_field name o) (c.2.1 h) ∙ ap (λ d. d ++ one_field name c.0) (l.complete (within limit now mid (nodes_in c.0) c.2.0 h)));
}

some_value : (name : List ℕ) (a : Answer CoercedTree) (rest : Answer CoercedFields) → both (coerced_field_then name) a rest ≡ both (with_field name) (mapped Some a) rest
some_value name (Ok t) rest = refl
some_value name (Err path) rest = refl

some_coerces : (limit before after : ℕ) (r : Option Coerced) (a : Answer CoercedTree) → Coerces limit before after (Ok r) a → CoercesField limit before after (Ok r) (mapped Some a)
some_coerces limit before after r a c = (Some c.0, ap (mapped Some) c.1, c.2)

pub field_put : (name : List ℕ) (o : Option CoercedTree) (x : CoercedFields) → with_field name o x ≡ in_front put_field (one_field name o) x
field_put name None x = refl
field_put name (Some t) x = refl

-- a field in a custom scalar's value, which is never absent
pub member_left : (limit : ℕ) (built more : List NamedTree) (name told : List ℕ) (before now mid : ℕ) (r : Option Coerced) (a : Answer CoercedTree) (rest whole : Answer CoercedFields)
    → told ≡ name → FieldsLeft limit built before now (both (coerced_field_then name) a rest) whole → Coerces limit now mid (Ok r) a → more ≡ built ++ one_field told (tree_in r) → FieldsLeft limit more before mid rest whole
member_left limit built more name told before now mid r a rest whole n l c e =
    field_left limit built more name before now mid r (with_field name) (mapped Some a) rest whole (field_put name) (subst (λ b. FieldsLeft limit built before now b whole) (some_value name a rest) l)
    (some_coerces limit now mid r a c) (e ∙ ap (λ k. built ++ one_field k (tree_in r)) n)

-- what is refused
pub item_refused : (limit : ℕ) (built : List CoercedTree) (before now : ℕ) (f : CoercionFault) (a : Answer CoercedTree) (rest whole : Answer CoercedTrees) → ItemsLeft limit built before now (both coerced_then a rest) whole → Tells f a → Tells f whole
item_refused limit built before now (BadValue path) a rest whole l h = stops coerced_then coerced_then l.done path rest whole (l.same ∙ ap (λ b. mapped (in_front coerced_then l.done) (both coerced_then b rest)) h)
item_refused limit built before now Memory a rest whole l h = tt

pub field_refused : {P : Type 0} (limit : ℕ) (built : List NamedTree) (before now : ℕ) (f : CoercionFault) (add : P → CoercedFields → CoercedFields) (a : Answer P) (rest whole : Answer CoercedFields) → FieldsLeft limit built before now (both add a rest) whole → Tells f a → Tells f whole
field_refused limit built before now (BadValue path) add a rest whole l h = stops put_field add l.done path rest whole (l.same ∙ ap (λ b. mapped (in_front put_field l.done) (both add b rest)) h)
field_refused limit built before now Memory add a rest whole l h = tt

-- nothing is left
pub items_end : (limit : ℕ) (built : List CoercedTree) (before now : ℕ) (r : Option Coerced) (whole : Answer CoercedTrees) → ItemsLeft limit built before now (Ok no_coerced) whole → (now ≤ limit → tree_in r ≡ Some (coerced_list (trees_from built))) → Coerces limit before now (Ok r) (mapped coerced_list whole)
items_end limit built before now r whole l h =
    (coerced_list (trees_from l.done), ap (mapped coerced_list) (l.same ∙ ap Ok (all_trees l.done)), (l.count, λ k. h k ∙ ap (λ ds. Some (coerced_list (trees_from ds))) (l.complete k)))

pub fields_end : (limit : ℕ) (built : List NamedTree) (before now : ℕ) (r : Option Coerced) (whole : Answer CoercedFields) → FieldsLeft limit built before now (Ok no_coerced_field) whole → (now ≤ limit → tree_in r ≡ Some (coerced_object (named_trees_from built))) → Coerces limit before now (Ok r) (mapped coerced_object whole)
fields_end limit built before now r whole l h =
    (coerced_object (named_trees_from l.done), ap (mapped coerced_object) (l.same ∙ ap Ok (all_fields l.done)), (l.count, λ k. h k ∙ ap (λ ds. Some (coerced_object (named_trees_from ds))) (l.complete k)))

-- nothing was done yet
pub items_start : (limit before now : ℕ) (whole : Answer CoercedTrees) → now ≡ counted limit (before + 1) → ItemsLeft limit [] before now whole whole
items_start limit before now (Ok x) e = record { done = []; same = refl; count = e; complete = λ h. refl }
items_start limit before now (Err path) e = record { done = []; same = refl; count = e; complete = λ h. refl }

pub fields_start : (limit before now : ℕ) (whole : Answer CoercedFields) → now ≡ counted limit (before + 1) → FieldsLeft limit [] before now whole whole
fields_start limit before now (Ok x) e = record { done = []; same = refl; count = e; complete = λ h. refl }
fields_start limit before now (Err path) e = record { done = []; same = refl; count = e; complete = λ h. refl }

-- the count passed the limit
pub beyond : {A : Type 0} (limit wide now : ℕ) → wide ≡ limit → wide < now → now ≤ limit → A
beyond limit wide now same more h = absurd (omega (arith, same, more, h))

-- the same fault, seen from one step further up
pub stepped_coerces : (limit before after : ℕ) (r : Option Coerced) (step : Path) (a : Answer CoercedTree) → Coerces limit before after (Ok r) a → Coerces limit before after (Ok r) (at_step step a)
stepped_coerces limit before after r step a c = (c.0, ap (at_step step) c.1, c.2)

pub stepped_coerces_field : (limit before after : ℕ) (r : Option Coerced) (step : Path) (a : Answer (Option CoercedTree)) → CoercesField limit before after (Ok r) a → CoercesField limit before after (Ok r) (at_step step a)
stepped_coerces_field limit before after r step a c = (c.0, ap (at_step step) c.1, c.2)

pub stepped_tells : {A : Type 0} (step : Path) (a : Answer A) (f g : CoercionFault) → TellsAfter step f g → Tells f a → Tells g (at_step step a)
stepped_tells step a (BadValue path) (BadValue told) after h = ap (at_step step) h ∙ ap Err (sym after)
stepped_tells step a (BadValue path) Memory after h = tt
stepped_tells step a Memory (BadValue told) after h = absurd (differ told after)
  where
    differ : (p : Path) → BadValue p ≡ Memory → ⊥
    differ p e = cc
stepped_tells step a Memory Memory after h = tt

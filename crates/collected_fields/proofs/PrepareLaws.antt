-- Selection sets that are made ready, one after another.
use Rattle.std.proofs.Common.{◌≡◌, ⊎_elim, ℕ, zero, suc, ◌+◌, ◌<◌, ◌≤◌, List, [], ◌∷◌, ◌++◌, map, take, slice_get, get_or, length, true, false, bytes_eq, Result, Ok, Err, OnOk, Option, Some, None, refl, sym, ap, ◌∙◌, subst, append_assoc, append-nil}
use Rattle.std.specs.Map.{update}
use Rattle.std.specs.Borrow.{Bor}
use Rattle.std.specs.BTreeMap.{BTreeMap}
use Rattle.std.proofs.lemmas.Bool.{cases_Bool}
use Rattle.std.proofs.lemmas.List.{map_push, take_more, take_all}
use Rattle.std.proofs.lemmas.Option.{same_Some, none-some}
use Rattle.std.proofs.lemmas.Slice.Eq.{bytes_eq-Decides}
use Rattle.gql_base.specs.declared.parts.trees.Argument.{Argument}
use Rattle.gql_base.specs.ways.Reading.{Identifier}
use Rattle.gql_base.specs.parts.Arguments.{DirectiveTree}
use Rattle.gql_base.specs.parts.Trees.{named_value, directive_tree}
use Rattle.gql_base.specs.names.Names.{place_of_name}
use Rattle.gql_base.specs.names.Indexes.{at_name}
use Rattle.document_reader.specs.declared.trees.Field.{Field}
use Rattle.document_reader.specs.declared.trees.Selection.{Selection}
use Rattle.document_reader.specs.Documents.{SelectionTree, fragment_spread, inline_fragment}
use Rattle.document_reader.specs.DocumentReading.{selections_from}
use Rattle.document_reader.specs.Trees.{names_of, field_tree, selection_tree, set_tree}
use Rattle.document_reader.proofs.PrintingSteps.{open_field}
use Rattle.schema_model.specs.SchemaData.{SchemaData, type_named}
use Rattle.document_rules.specs.Parts.{FragmentData, fragment_name}
use Rattle.document_rules.specs.Sites.{name_of_field, below_inline}
use Rattle.document_rules.proofs.SiteSteps.{name_of_names}
use Rattle.plan_model.specs.SelectedFields.{Setting, written_below}
use Rattle.plan_model.specs.Collecting.{CollectedField, WrittenSelections, written_in, is_included}
use Rattle.plan_model.specs.Merging.{selections_below}
use Rattle.collected_fields.specs.Views.{written_field}
use Rattle.collected_fields.specs.Steps.{StepData, field_step, spread_step, inline_step, IsClosed, Stands, IsLeaf, KnowsLeaves, StandsFor}
use Rattle.collected_fields.specs.declared.source.Reached.{Reached}
use Rattle.collected_fields.specs.declared.tables.Entry.{Entry}
use Rattle.collected_fields.specs.Prepared.{ListData, EntryData, entry_data, entry_seen, entry_wanted, AreEntries, EntersFragment, AreSound, reached_fragment, written_of, IsListed, AreListed, ArePrepared, Grows, Lists, Prepares, Adds, AddsInline, spread_steps, steps_of_spread, steps_of_inline, conditional_steps}
use Rattle.collected_fields.proofs.StepLaws.{stands_longer, closed_both, last_stands, one_closed, inline_closed, spread_closed, left_out, field_stands, repeat_stands, spread_stands, inline_stands, nothing_stands, next_stands}

-- ---- leaves

pub knows_more : (parent : Option ℕ) (xs ys more : List StepData) (leaves : BTreeMap (Bor (List ℕ)) (Bor Field)) → ys ≡ xs ++ more → IsClosed more → KnowsLeaves parent xs leaves → KnowsLeaves parent ys leaves
knows_more parent xs ys more leaves grown closed knows = subst (λ (zs : List StepData). KnowsLeaves parent zs leaves) (sym grown)
    (closed_both xs more knows.0 closed, λ key f is. let k = knows.1 key f is in (k.0, (k.1.0, stands_longer xs more (written_field parent f.now) k.1.1)))

pub knows_none : (parent : Option ℕ) (xs : List StepData) (leaves : BTreeMap (Bor (List ℕ)) (Bor Field)) → xs ≡ [] → ((key : List ℕ) → at_name leaves key ≡ None) → KnowsLeaves parent xs leaves
knows_none parent xs leaves no_steps none = subst (λ (zs : List StepData). KnowsLeaves parent zs leaves) (sym no_steps) ((λ s T spread others. refl), λ key f is. absurd (none-some f (sym (none key) ∙ is)))

-- a field behind the others
pub knows_kept : (parent : Option ℕ) (xs ys : List StepData) (leaves : BTreeMap (Bor (List ℕ)) (Bor Field)) (f : Field) (below : ℕ) → ys ≡ xs ++ (field_step (written_field parent f) below ∷ []) → KnowsLeaves parent xs leaves → KnowsLeaves parent ys leaves
knows_kept parent xs ys leaves f below grown knows = knows_more parent xs ys (field_step (written_field parent f) below ∷ []) leaves grown (one_closed (written_field parent f) below) knows

knows_put : (parent : Option ℕ) (ys : List StepData) (old new : BTreeMap (Bor (List ℕ)) (Bor Field)) (f : Bor Field) (key : List ℕ) → ((name : List ℕ) → at_name new name ≡ update bytes_eq (at_name old) key (Some f) name) → key ≡ (written_field None f.now).key → IsLeaf f.now
    → Stands ys (written_field parent f.now) → KnowsLeaves parent ys old → KnowsLeaves parent ys new
knows_put parent ys old new f key put named leaf stands knows = (
  knows.0,
  λ name g is. ⊎_elim
      (λ (same : bytes_eq key name ≡ true). here name g ((bytes_eq-Decides key name).0 same) (same_Some f g (sym (put_here name same) ∙ (sym (put name) ∙ is))))
      (λ (other : bytes_eq key name ≡ false). knows.1 name g (sym (put_there name other) ∙ (sym (put name) ∙ is)))
      (cases_Bool (bytes_eq key name)),
)
  where
    put_here : (name : List ℕ) → bytes_eq key name ≡ true → update bytes_eq (at_name old) key (Some f) name ≡ Some f
    put_here name same = rw (same) refl

    put_there : (name : List ℕ) → bytes_eq key name ≡ false → update bytes_eq (at_name old) key (Some f) name ≡ at_name old name
    put_there name other = rw (other) refl

    here : (name : List ℕ) (g : Bor Field) → key ≡ name → f ≡ g → IsLeaf g.now × (((written_field parent g.now).key ≡ name) × Stands ys (written_field parent g.now))
    here name g is same = subst (λ (h : Bor Field). IsLeaf h.now × (((written_field parent h.now).key ≡ name) × Stands ys (written_field parent h.now))) same (leaf, (sym named ∙ is, stands))

-- a leaf behind the others, which is noted
pub knows_new : (parent : Option ℕ) (xs ys : List StepData) (old new : BTreeMap (Bor (List ℕ)) (Bor Field)) (f : Bor Field) (below : ℕ) (key : List ℕ) → ys ≡ xs ++ (field_step (written_field parent f.now) below ∷ []) → ((name : List ℕ) → at_name new name ≡ update bytes_eq (at_name old) key (Some f) name)
    → key ≡ (written_field None f.now).key → IsLeaf f.now → KnowsLeaves parent xs old → KnowsLeaves parent ys new
knows_new parent xs ys old new f below key grown put named leaf knows = knows_put parent ys old new f key put named leaf
    (subst (λ (zs : List StepData). Stands zs (written_field parent f.now)) (sym grown) (last_stands xs (written_field parent f.now) below knows.0)) (knows_kept parent xs ys old f.now below grown knows)

-- leaves of one key and one name are equal
pub same_leaves : (parent : Option ℕ) (f g : Field) → IsLeaf f → IsLeaf g → (written_field parent f).key ≡ (written_field parent g).key → f.name.text ≡ g.name.text → written_field parent f ≡ written_field parent g
same_leaves parent f g a b key name =
    let made : List ℕ → List ℕ → List Argument → List Selection → CollectedField = λ k n xs ss. record { parent = parent; key = k; call = record { name = n; arguments = map named_value xs }; below = set_tree ss } in
    let called : (h : Field) → (name_of_field (names_of h.alias h.name)).0 ≡ h.name.text = λ h. ap (λ i. i.0) (name_of_names h.alias h.name) in
    ap (λ k. made k (name_of_field (names_of f.alias f.name)).0 f.arguments.items f.selections.items) key
    ∙ (ap (λ n. made (names_of g.alias g.name).0.0 n f.arguments.items f.selections.items) (called f ∙ (name ∙ sym (called g)))
    ∙ (ap (λ xs. made (names_of g.alias g.name).0.0 (name_of_field (names_of g.alias g.name)).0 xs f.selections.items) (a.0 ∙ sym b.0)
    ∙ ap (λ ss. made (names_of g.alias g.name).0.0 (name_of_field (names_of g.alias g.name)).0 g.arguments.items ss) (a.1 ∙ sym b.1)))

-- ---- lists that grow

pub grows_none : (e : Setting) (lists : List ListData) → Grows e lists lists
grows_none e lists = record { more = []; grown = sym (append-nil lists); prepared = tt }

listed_more : (lists more : List ListData) (written : WrittenSelections) (n : ℕ) → IsListed lists written n → IsListed (lists ++ more) written n
listed_more [] more written n h = absurd (none-some written h)
listed_more (l ∷ lists) more written zero h = h
listed_more (l ∷ lists) more written (suc n) h = listed_more lists more written n h

all_listed_more : (e : Setting) (lists more : List ListData) (xs : List StepData) → AreListed e lists xs → AreListed e (lists ++ more) xs
all_listed_more e lists more [] h = tt
all_listed_more e lists more (field_step f below ∷ xs) h = (listed_more lists more (selections_below e f) below h.0, all_listed_more e lists more xs h.1)
all_listed_more e lists more (spread_step number ∷ xs) h = all_listed_more e lists more xs h
all_listed_more e lists more (inline_step on count ∷ xs) h = all_listed_more e lists more xs h

prepared_more : (e : Setting) (all more ls : List ListData) → ArePrepared e all ls → ArePrepared e (all ++ more) ls
prepared_more e all more [] h = tt
prepared_more e all more (l ∷ ls) h = ((h.0.0, all_listed_more e all more l.steps h.0.1), prepared_more e all more ls h.1)

prepared_both : (e : Setting) (all xs ys : List ListData) → ArePrepared e all xs → ArePrepared e all ys → ArePrepared e all (xs ++ ys)
prepared_both e all [] ys h k = k
prepared_both e all (x ∷ xs) ys h k = (h.0, prepared_both e all xs ys h.1 k)

pub grows_twice : (e : Setting) (a b c : List ListData) → Grows e a b → Grows e b c → Grows e a c
grows_twice e a b c g h = record {
  more = g.more ++ h.more;
  grown = h.grown ∙ (ap (λ (ls : List ListData). ls ++ h.more) g.grown ∙ append_assoc a g.more h.more);
  prepared = prepared_both e c g.more h.more (subst (λ (all : List ListData). ArePrepared e all g.more) (sym h.grown) (prepared_more e b h.more g.more g.prepared)) h.prepared;
}

pub listed_after : (e : Setting) (a b : List ListData) (xs : List StepData) → Grows e a b → AreListed e a xs → AreListed e b xs
listed_after e a b xs g h = subst (λ (all : List ListData). AreListed e all xs) (sym g.grown) (all_listed_more e a g.more xs h)

all_listed_both : (e : Setting) (lists : List ListData) (xs ys : List StepData) → AreListed e lists xs → AreListed e lists ys → AreListed e lists (xs ++ ys)
all_listed_both e lists [] ys h k = k
all_listed_both e lists (field_step f below ∷ xs) ys h k = (h.0, all_listed_both e lists xs ys h.1 k)
all_listed_both e lists (spread_step number ∷ xs) ys h k = all_listed_both e lists xs ys h k
all_listed_both e lists (inline_step on count ∷ xs) ys h k = all_listed_both e lists xs ys h k

last_listed : (lists : List ListData) (l : ListData) → slice_get (map written_of (lists ++ (l ∷ []))) (length lists) ≡ Some (written_of l)
last_listed [] l = refl
last_listed (x ∷ lists) l = last_listed lists l

pub list_added : (e : Setting) (parent : Option ℕ) (ts : List SelectionTree) (steps : List StepData) (old mid new : List ListData) (number : ℕ) → Prepares e parent ts old mid steps → new ≡ mid ++ (record { parent = parent; selections = ts; steps = steps } ∷ []) → number ≡ length mid
    → Lists e (parent, selections_from ts) old new number
list_added e parent ts steps old mid new number p grown is =
    let l : ListData = record { parent = parent; selections = ts; steps = steps } in
    record {
      lists = grows_twice e old mid new p.lists (record { more = l ∷ []; grown = grown; prepared = ((p.stands, subst (λ (all : List ListData). AreListed e all steps) (sym grown) (all_listed_more e mid (l ∷ []) steps p.listed)), tt) });
      there = ap (λ (ls : List ListData). slice_get (map written_of ls) number) grown ∙ (ap (slice_get (map written_of (mid ++ (l ∷ [])))) is ∙ last_listed mid l);
    }

-- ---- what is added for one selection

pub on_ok_both : {A E : Type 0} (r : Result A E) {P Q R : Type 0} → (P → Q → R) → OnOk r P → OnOk r Q → OnOk r R
on_ok_both (Ok x) f p q = f p q
on_ok_both (Err x) f p q = tt

pub knows_same : (p q : Option ℕ) (xs : List StepData) (old new : BTreeMap (Bor (List ℕ)) (Bor Field)) → q ≡ p → new ≡ old → KnowsLeaves p xs old → KnowsLeaves q xs new
knows_same p q xs old new a b k = subst (λ (o : Option ℕ). KnowsLeaves o xs new) (sym a) (subst (λ (leaves : BTreeMap (Bor (List ℕ)) (Bor Field)). KnowsLeaves p xs leaves) (sym b) k)

module _ (e : Setting) (parent : Option ℕ) (before : List StepData) where
  pub nothing_added : (t : SelectionTree) (lists : List ListData) → is_included e.values t ≡ false → Adds e parent t lists lists before before
  nothing_added t lists goes = record { steps = []; grown = sym (append-nil before); stands = left_out e before parent t goes; listed = tt; lists = grows_none e lists }

  pub repeat_added : (f : Field) (lists : List ListData) → is_included e.values (field_tree f) ≡ true → Stands before (written_field parent f) → Adds e parent (field_tree f) lists lists before before
  repeat_added f lists stays stands = record {
    steps = [];
    grown = sym (append-nil before);
    stands = subst (λ (t : SelectionTree). StandsFor e before parent (t ∷ []) []) (sym (open_field f))
        (repeat_stands e before parent (names_of f.alias f.name) (map named_value f.arguments.items) (map directive_tree f.directives.items) (set_tree f.selections.items) (sym (ap (is_included e.values) (open_field f)) ∙ stays) stands);
    listed = tt;
    lists = grows_none e lists;
  }

  pub field_added : (f : Field) (after : List StepData) (below : Option ℕ) (given : List Selection) (number : ℕ) (old new : List ListData) → is_included e.values (field_tree f) ≡ true
      → below ≡ written_below e.schema parent (written_field parent f).call → given ≡ f.selections.items → Lists e (below, set_tree given) old new number → after ≡ before ++ (field_step (written_field parent f) number ∷ []) → Adds e parent (field_tree f) old new before after
  field_added f after below given number old new stays on is l grown = record {
    steps = field_step (written_field parent f) number ∷ [];
    grown = grown;
    stands = subst (λ (t : SelectionTree). StandsFor e before parent (t ∷ []) (field_step (written_field parent f) number ∷ [])) (sym (open_field f))
        (field_stands e before parent (names_of f.alias f.name) (map named_value f.arguments.items) (map directive_tree f.directives.items) (set_tree f.selections.items) number (sym (ap (is_included e.values) (open_field f)) ∙ stays));
    listed = (subst (λ (o : Option ℕ). IsListed new (o, set_tree f.selections.items) number) on (subst (λ (ss : List Selection). IsListed new (below, set_tree ss) number) is l.there), tt);
    lists = l.lists;
  }

  listed_none : (lists : List ListData) (o : Option ℕ) → AreListed e lists (spread_steps o)
  listed_none lists None = tt
  listed_none lists (Some number) = tt

  pub spread_added : (name : Identifier) (ds : List DirectiveTree) (after : List StepData) (lists : List ListData) → is_included e.values (fragment_spread name ds) ≡ true → after ≡ before ++ steps_of_spread e name.0 → Adds e parent (fragment_spread name ds) lists lists before after
  spread_added name ds after lists stays grown = record {
    steps = steps_of_spread e name.0;
    grown = grown;
    stands = spread_stands e before parent name ds stays;
    listed = listed_none lists (place_of_name fragment_name e.fragments name.0);
    lists = grows_none e lists;
  }

  listed_where : (lists : List ListData) (steps : List StepData) (o : Option ℕ) → AreListed e lists steps → AreListed e lists (conditional_steps o steps)
  listed_where lists steps None h = tt
  listed_where lists steps (Some on) h = h

  listed_inline : (lists : List ListData) (steps : List StepData) (on : Option Identifier) → AreListed e lists steps → AreListed e lists (steps_of_inline e.schema on steps)
  listed_inline lists steps None h = h
  listed_inline lists steps (Some on) h = listed_where lists steps (type_named e.schema on.0) h

  pub inline_added : (on : Option Identifier) (ts : List SelectionTree) (steps after : List StepData) (old new : List ListData) → Prepares e (below_inline e.schema parent on) ts old new steps → after ≡ before ++ steps_of_inline e.schema on steps
      → (ds : List DirectiveTree) → is_included e.values (inline_fragment on ds (selections_from ts)) ≡ true → Adds e parent (inline_fragment on ds (selections_from ts)) old new before after
  inline_added on ts steps after old new p grown ds stays = record {
    steps = steps_of_inline e.schema on steps;
    grown = grown;
    stands = inline_stands e before parent on ds ts steps stays p.stands;
    listed = listed_inline new steps on p.listed;
    lists = p.lists;
  }

  -- steps of an inline fragment that were put behind the others
  pub inline_done : (on : Option Identifier) (ts : List SelectionTree) (below q : Option ℕ) (steps after : List StepData) (old new : List ListData) (leaves later : BTreeMap (Bor (List ℕ)) (Bor Field)) → Prepares e below ts old new steps → below ≡ below_inline e.schema parent on
      → after ≡ before ++ steps_of_inline e.schema on steps → q ≡ parent → later ≡ leaves → KnowsLeaves parent before leaves → AddsInline e parent on ts old new before after × KnowsLeaves q after later
  inline_done on ts below q steps after old new leaves later p is grown same stay knows =
      let prepared : Prepares e (below_inline e.schema parent on) ts old new steps = subst (λ (o : Option ℕ). Prepares e o ts old new steps) is p in (
        inline_added on ts steps after old new prepared grown,
        knows_same parent q after leaves later same stay (knows_more parent before after (steps_of_inline e.schema on steps) leaves grown (inline_closed e (below_inline e.schema parent on) ts steps prepared.stands on) knows),
      )

  -- and a spread
  pub spread_done : (name : Identifier) (ds : List DirectiveTree) (q : Option ℕ) (given : List ℕ) (after : List StepData) (lists : List ListData) (leaves later : BTreeMap (Bor (List ℕ)) (Bor Field)) → is_included e.values (fragment_spread name ds) ≡ true → given ≡ name.0 → after ≡ before ++ steps_of_spread e given
      → q ≡ parent → later ≡ leaves → KnowsLeaves parent before leaves → Adds e parent (fragment_spread name ds) lists lists before after × KnowsLeaves q after later
  spread_done name ds q given after lists leaves later stays is grown same stay knows =
      let there : after ≡ before ++ steps_of_spread e name.0 = grown ∙ ap (λ n. before ++ steps_of_spread e n) is in (
        spread_added name ds after lists stays there,
        knows_same parent q after leaves later same stay (knows_more parent before after (steps_of_spread e name.0) leaves there (spread_closed (place_of_name fragment_name e.fragments name.0)) knows),
      )

-- ---- a selection set, selection after selection

-- what is made of the first selections of a set
pub record Made (e : Setting) (parent : Option ℕ) (ts : List SelectionTree) (old new : List ListData) (steps : List StepData) : Type 0 where
  pub stands : StandsFor e [] parent ts steps
  pub listed : AreListed e new steps
  pub lists : Grows e old new

pub made_none : (e : Setting) (parent : Option ℕ) (lists : List ListData) (steps : List StepData) → steps ≡ [] → Made e parent [] lists lists steps
made_none e parent lists steps none = subst (λ (xs : List StepData). Made e parent [] lists lists xs) (sym none) (record { stands = nothing_stands e parent; listed = tt; lists = grows_none e lists })

made_next : (e : Setting) (parent : Option ℕ) (ts : List SelectionTree) (t : SelectionTree) (old mid new : List ListData) (before after : List StepData) → Made e parent ts old mid before → Adds e parent t mid new before after → Made e parent (ts ++ (t ∷ [])) old new after
made_next e parent ts t old mid new before after m a = subst (λ (xs : List StepData). Made e parent (ts ++ (t ∷ [])) old new xs) (sym a.grown) (record {
  stands = next_stands e parent ts t before a.steps m.stands a.stands;
  listed = all_listed_both e new before a.steps (listed_after e mid new before a.lists m.listed) a.listed;
  lists = grows_twice e old mid new m.lists a.lists;
})

pub made_more : (e : Setting) (parent q : Option ℕ) (ss : List Selection) (at : ℕ) (s : Selection) (old mid new : List ListData) (before after : List StepData) → at < length ss → s ≡ get_or ss at s → q ≡ parent
    → Made e parent (map selection_tree (take at ss)) old mid before → Adds e q (selection_tree s) mid new before after → Made e parent (map selection_tree (take (at + 1) ss)) old new after
made_more e parent q ss at s old mid new before after here is same m a =
    subst (λ (ts : List SelectionTree). Made e parent ts old new after) (sym (ap (map selection_tree) (take_more ss at s here ∙ ap (λ (x : Selection). take at ss ++ (x ∷ [])) (sym is)) ∙ map_push selection_tree (take at ss) s))
    (made_next e parent (map selection_tree (take at ss)) (selection_tree s) old mid new before after m (subst (λ (o : Option ℕ). Adds e o (selection_tree s) mid new before after) same a))

pub made_all : (e : Setting) (parent : Option ℕ) (ts : List SelectionTree) (old new : List ListData) (steps : List StepData) → Made e parent ts old new steps → Prepares e parent ts old new steps
made_all e parent ts old new steps m = record { stands = m.stands; listed = m.listed; lists = m.lists }

pub made_whole : (e : Setting) (parent : Option ℕ) (ss : List Selection) (at : ℕ) (old new : List ListData) (steps : List StepData) → length ss ≤ at → Made e parent (map selection_tree (take at ss)) old new steps → Prepares e parent (map selection_tree ss) old new steps
made_whole e parent ss at old new steps past m = made_all e parent (map selection_tree ss) old new steps (subst (λ (xs : List Selection). Made e parent (map selection_tree xs) old new steps) (take_all at ss past) m)

-- ---- the fragments

entry_still : (s : SchemaData) (lists more : List ListData) (entry : EntryData) (f : FragmentData) → entry_seen lists entry ≡ entry_wanted s f → entry_seen (lists ++ more) entry ≡ entry_wanted s f
entry_still s lists more entry f is =
    let there : IsListed lists (written_in s f) entry.1 = ap (λ p. p.1) is in
    ap (λ o. (entry.0, o)) (listed_more lists more (written_in s f) entry.1 there ∙ sym there) ∙ is

abbrev the_rest : {A : Type 0} → List A → List A
the_rest [] = []
the_rest (x ∷ xs) = xs

abbrev the_first : {A : Type 0} → A → List A → A
the_first d [] = d
the_first d (x ∷ xs) = x

entries_still : (s : SchemaData) (lists more : List ListData) (entries : List EntryData) (fs : List FragmentData) → AreEntries s lists entries fs → AreEntries s (lists ++ more) entries fs
entries_still s lists more [] [] is = refl
entries_still s lists more [] (f ∷ fs) is = is
entries_still s lists more (entry ∷ entries) [] is = absurd (no_more (entry_seen lists entry) (map (entry_seen lists) entries) is)
  where
    no_more : {A : Type 0} (x : A) (xs : List A) → (x ∷ xs) ≡ [] → ⊥
    no_more x xs e = cc
entries_still s lists more (entry ∷ entries) (f ∷ fs) is =
    ap (λ x. x ∷ map (entry_seen (lists ++ more)) entries) (entry_still s lists more entry f (ap (the_first (entry_seen lists entry)) is))
    ∙ ap (λ xs. entry_wanted s f ∷ xs) (entries_still s lists more entries fs (ap the_rest is))

pub entry_entered : (e : Setting) (f : FragmentData) (old new : List ListData) (on : Option ℕ) (list : ℕ) → Lists e (written_in e.schema f) old new list → on ≡ type_named e.schema f.on.0 → EntersFragment e f old new (on, list)
entry_entered e f old new on list l is = record { lists = l.lists; seen = ap (λ o. (o, slice_get (map written_of new) list)) is ∙ ap (λ w. (type_named e.schema f.on.0, w)) l.there }

pub entries_next : (e : Setting) (rs : List Reached) (at : ℕ) (r : Reached) (old new : List ListData) (entries pushed : List Entry) (entry : Entry) → at < length rs → r ≡ get_or rs at r → pushed ≡ entries ++ (entry ∷ []) → Grows e [] old → AreEntries e.schema old (map entry_data entries) (map reached_fragment (take at rs))
    → EntersFragment e (reached_fragment r) old new (entry_data entry) → Grows e [] new × AreEntries e.schema new (map entry_data pushed) (map reached_fragment (take (at + 1) rs))
entries_next e rs at r old new entries pushed entry here is grown g before enters = (
  grows_twice e [] old new g enters.lists,
  ap (λ xs. map (entry_seen new) (map entry_data xs)) grown
      ∙ (ap (map (entry_seen new)) (map_push entry_data entries entry)
      ∙ (map_push (entry_seen new) (map entry_data entries) (entry_data entry)
      ∙ (ap (λ xs. xs ++ (entry_seen new (entry_data entry) ∷ [])) (subst (λ ls. AreEntries e.schema ls (map entry_data entries) (map reached_fragment (take at rs))) (sym enters.lists.grown) (entries_still e.schema old enters.lists.more (map entry_data entries) (map reached_fragment (take at rs)) before))
      ∙ (ap (λ x. map (entry_wanted e.schema) (map reached_fragment (take at rs)) ++ (x ∷ [])) enters.seen
      ∙ sym (ap (λ xs. map (entry_wanted e.schema) (map reached_fragment xs)) (take_more rs at r here ∙ ap (λ x. take at rs ++ (x ∷ [])) (sym is))
      ∙ (ap (map (entry_wanted e.schema)) (map_push reached_fragment (take at rs) r) ∙ map_push (entry_wanted e.schema) (map reached_fragment (take at rs)) (reached_fragment r))))))),
)

pub entries_whole : (e : Setting) (rs : List Reached) (at : ℕ) (lists : List ListData) (entries : List EntryData) → length rs ≤ at → AreEntries e.schema lists entries (map reached_fragment (take at rs)) → AreEntries e.schema lists entries (map reached_fragment rs)
entries_whole e rs at lists entries past h = subst (λ xs. AreEntries e.schema lists entries (map reached_fragment xs)) (take_all at rs past) h

-- all that was made ready
pub all_sound : (e : Setting) (fs : List FragmentData) (mid new : List ListData) (entries : List EntryData) (written : WrittenSelections) (number : ℕ) → e.fragments ≡ fs → Grows e [] mid → AreEntries e.schema mid entries e.fragments → Lists e written mid new number → AreSound (record e { fragments = fs }) new entries
all_sound e fs mid new entries written number same g h l =
    let whole : Grows e [] new = grows_twice e [] mid new g l.lists in
    subst (λ gs. AreSound (record e { fragments = gs }) new entries) same
    (record {
      prepared = subst (λ ls. ArePrepared e new ls) (sym whole.grown) whole.prepared;
      entered = subst (λ ls. AreEntries e.schema ls entries e.fragments) (sym l.lists.grown) (entries_still e.schema mid l.lists.more entries e.fragments h);
    })

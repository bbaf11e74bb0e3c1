-- Why a database isn't opened.
use Rattle.std.proofs.Common.{◌≡◌, ◌⊎◌, ◌<◌, ◌≤◌, ◌^◌, ℕ, zero, suc, List, [], ◌∷◌, length, map, take, get_or, false, refl, sym, ap, subst, ◌∙◌, inl, inr, IsTrue, Result, Ok, Err, arith}
use Rattle.std.specs.Prelude.{⊤, MatchResult, IfErr}
use Rattle.std.specs.List.{AllByRecursion}
use Rattle.std.proofs.lemmas.Bool.{cases_Bool}
use Rattle.sqlite_disk.specs.Disk.{MoreFaults}
use Rattle.sqlite_value.specs.Order.{Row}
use Rattle.sqlite_trees.specs.Tree.{Trees}
use Rattle.sqlite_trees.specs.Objects.{catalog_tree}
use Rattle.sqlite_trees.specs.View.{View, HasCause}
use Rattle.sqlite_trees.specs.declared.error.StoreError.{StoreError}
use Rattle.sqlite_trees.specs.declared.error.StoreError.TheVariants as store
use Rattle.sqlite_trees.specs.declared.store.Shape.{Shape}
use Rattle.sqlite_trees.specs.declared.store.Shape.TheVariants.{Table, Absent}
use Rattle.account_store.specs.declared.step.AccountRow.{AccountRow}
use Rattle.account_store.specs.declared.step.GrantRow.{GrantRow}
use Rattle.account_store.specs.declared.step.Step.{Step}
use Rattle.account_store.specs.Steps.{grant_of}
use Rattle.store_trees.specs.declared.fault.OpenFault.{OpenFault}
use Rattle.store_trees.specs.declared.fault.OpenFault.TheVariants as why
use Rattle.store_trees.specs.Tables.{meta_tree, client_tree, account_tree, grant_tree, account_entry, grant_entry, meta_rows, account_row, grant_row}
use Rattle.store_trees.specs.Clients.{client_entry, client_row, AreClients, IsNextOf}
use Rattle.store_trees.specs.Making.{AreListed, AreMade, HasShapes, HasFreeTrees}
use Rattle.store_trees.specs.Opening.{are_below, IsAtRest, IsFoundOrMade, IsPrepared, HasOurTables, HasFailed, FailsFor, FailsOn, AreAccounts, AreGrants, AreTaken, RefusesMeta, RefusesRows, Refuses, fault_of, KeepFails, SaysWhy, kept_fault}
use Rattle.store_trees.specs.Keeping.{CanKeep, CanKeepAll}

-- ---- a disk that failed

-- where what else may be why can't be
pub caused_not : (v : View) (a b : ℕ) (X : Type 0) (e : StoreError) → (X → ⊥) → HasCause v (MoreFaults a b) X e → FailsFor (IsTrue v.is_broken ⊎ MoreFaults a b) e
caused_not v a b X store.OutOfMemory none h = inl refl
caused_not v a b X store.Io none h = inr (inr h)
caused_not v a b X store.Corrupt none h = inr (inr h)
caused_not v a b X store.Full none h = inr (inr h)
caused_not v a b X store.Broken none h = inr (inl h)
caused_not v a b X store.Unstorable none h = absurd (none h)

pub caused : (v : View) (a b : ℕ) (e : StoreError) → HasCause v (MoreFaults a b) ⊥ e → FailsFor (IsTrue v.is_broken ⊎ MoreFaults a b) e
caused v a b e h = caused_not v a b ⊥ e (λ none. none) h

-- of a call that keeps something
pub keep_cause : (v : View) (a b : ℕ) (X Y : Type 0) (e : StoreError) → (X → Y) → HasCause v (MoreFaults a b) X e → KeepFails (IsTrue v.is_broken ⊎ MoreFaults a b) Y e
keep_cause v a b X Y store.OutOfMemory f h = tt
keep_cause v a b X Y store.Io f h = inr h
keep_cause v a b X Y store.Corrupt f h = inr h
keep_cause v a b X Y store.Full f h = inr h
keep_cause v a b X Y store.Broken f h = inl h
keep_cause v a b X Y store.Unstorable f h = f h

pub keep_fails : (A B X Y : Type 0) (e : StoreError) → (A → B) → (X → Y) → KeepFails A X e → KeepFails B Y e
keep_fails A B X Y store.OutOfMemory f g h = tt
keep_fails A B X Y store.Io f g h = f h
keep_fails A B X Y store.Corrupt f g h = f h
keep_fails A B X Y store.Full f g h = f h
keep_fails A B X Y store.Broken f g h = f h
keep_fails A B X Y store.Unstorable f g h = g h

pub says_why : (A X : Type 0) (e : StoreError) → KeepFails A X e → SaysWhy A X (kept_fault e)
says_why A X store.OutOfMemory h = tt
says_why A X store.Io h = h
says_why A X store.Corrupt h = h
says_why A X store.Full h = h
says_why A X store.Broken h = h
says_why A X store.Unstorable h = h

pub err_weaker : {T E : Type 0} (r : Result T E) (P Q : E → Type 0) → ((e : E) → P e → Q e) → IfErr r P → IfErr r Q
err_weaker (Ok x) P Q f h = tt
err_weaker (Err e) P Q f h = f e h

-- of a result whose errors are told where the disk is clean
pub if_clean : {T E : Type 0} (r : Result T E) (clean : Type 0) (P Q : E → Type 0) → ((e : E) → clean → P e → Q e) → (clean → IfErr r P) → IfErr r (λ e. clean → Q e)
if_clean (Ok x) clean P Q f h = tt
if_clean (Err e) clean P Q f h = λ c. f e c (h c)

pub told : (failed : Type 0) (e : StoreError) → FailsFor failed e → FailsOn ⊤ failed (fault_of e)
told failed store.OutOfMemory h = tt
told failed store.Io (inl e) = absurd cc
told failed store.Io (inr h) = h
told failed store.Corrupt (inl e) = absurd cc
told failed store.Corrupt (inr h) = h
told failed store.Full (inl e) = absurd cc
told failed store.Full (inr h) = h
told failed store.Broken (inl e) = absurd cc
told failed store.Broken (inr h) = h
told failed store.Unstorable (inl e) = absurd cc
told failed store.Unstorable (inr h) = h

pub failed_on : {S : Type 0} (view : S → View) (faults : S → ℕ) (a b c : S) → (view b).is_broken ≡ (view a).is_broken → faults a ≤ faults b → HasFailed view faults b c → HasFailed view faults a c
failed_on view faults a b c same le (inl broken) = inl (subst IsTrue same broken)
failed_on view faults a b c same le (inr more) = inr (omega (arith, more, le))

pub fails_more : {S : Type 0} (view : S → View) (faults : S → ℕ) (a b c : S) (e : StoreError) → (view b).is_broken ≡ (view a).is_broken → faults a ≤ faults b
    → FailsFor (HasFailed view faults b c) e → FailsFor (HasFailed view faults a c) e
fails_more view faults a b c e same le (inl none) = inl none
fails_more view faults a b c e same le (inr h) = inr (failed_on view faults a b c same le h)

pub either_on : (A B X : Type 0) → (A → B) → A ⊎ X → B ⊎ X
either_on A B X f (inl a) = inl (f a)
either_on A B X f (inr x) = inr x

-- of two stores that are sound
pub fails_since : {S : Type 0} (view : S → View) (faults : S → ℕ) (a b c : S) (e : StoreError) → (view a).is_broken ≡ false → (view b).is_broken ≡ false → faults a ≤ faults b
    → FailsFor (HasFailed view faults b c) e → FailsFor (HasFailed view faults a c) e
fails_since view faults a b c e first second le h = fails_more view faults a b c e (second ∙ sym first) le h

-- what failed before stays so
pub failed_still : {S : Type 0} (view : S → View) (faults : S → ℕ) (a b c : S) → faults b ≤ faults c → HasFailed view faults a b → HasFailed view faults a c
failed_still view faults a b c le (inl broken) = inl broken
failed_still view faults a b c le (inr more) = inr (omega (arith, more, le))

pub kept_at : (reals : ℕ → ℕ) (steps : List Step) (i : ℕ) (d : Step) → CanKeepAll reals steps → i < length steps → CanKeep reals (get_or steps i d)
kept_at reals [] i d all low = absurd (omega (arith, low))
kept_at reals (s ∷ ss) zero d all low = all.0
kept_at reals (s ∷ ss) (suc i) d all low = kept_at reals ss i d all.1 (omega (arith, low))

-- behind a store that is sound
pub shut_on : {S : Type 0} (view : S → View) (faults : S → ℕ) (a b c : S) → (view b).is_broken ≡ false → faults a ≤ faults b → HasFailed view faults b c
    → ((view a).is_open ≡ false) ⊎ MoreFaults (faults a) (faults c)
shut_on view faults a b c sound le (inl broken) = absurd (let e = sym sound ∙ broken in cc)
shut_on view faults a b c sound le (inr more) = inr (omega (arith, more, le))

pub shut_or_failed : (v : View) (failed : Type 0) → (IsTrue v.is_open → failed) → (v.is_open ≡ false) ⊎ failed
shut_or_failed v failed told_so = elim (cases_Bool v.is_open) [
  | inl up ↦ inr (told_so up)
  | inr down ↦ inl down
]

-- ---- rows that aren't taken

-- each row of a mapped list is that of one of its items
at_mapped : {X : Type 0} (f : X → Row) (P : X → Type 0) (xs : List X) (i : ℕ) (d : Row) → AllByRecursion P xs → i < length (map f xs) → (x : X) × P x × (get_or (map f xs) i d ≡ f x)
at_mapped f P [] i d all low = absurd (omega (arith, low))
at_mapped f P (x ∷ xs) zero d all low = (x, all.0, refl)
at_mapped f P (x ∷ xs) (suc i) d all low = at_mapped f P xs i d all.1 (omega (arith, low))

pub not_accounts : (rows : List Row) (i : ℕ) (d : Row) → i < length rows → ((client : ℕ) (account : AccountRow) → client < 2 ^ 32 → get_or rows i d ≡ account_entry client account → ⊥) → AreAccounts rows → ⊥
not_accounts rows i d low none are =
    let at = at_mapped account_row (λ a. a.0 < 2 ^ 32) are.0 i d are.1 (subst (λ (r : List Row). i < length r) are.2 low) in
    none at.0.0 at.0.1 at.1 (ap (λ (r : List Row). get_or r i d) are.2 ∙ at.2)

pub not_grants : (rows : List Row) (i : ℕ) (d : Row) → i < length rows → ((grant : GrantRow) → grant.client < 2 ^ 32 → get_or rows i d ≡ grant_entry (grant_of grant) → ⊥) → AreGrants rows → ⊥
not_grants rows i d low none are =
    let at = at_mapped grant_row (λ g. g.client < 2 ^ 32) are.0 i d are.1 (subst (λ (r : List Row). i < length r) are.2 low) in
    none at.0 at.1 (ap (λ (r : List Row). get_or r i d) are.2 ∙ at.2)

pub not_clients : (rows : List Row) (i : ℕ) (d : Row) → i < length rows → ((number : ℕ) (sum : List ℕ) → number < 2 ^ 32 → length sum ≡ 32 → get_or rows i d ≡ client_entry number sum → ⊥) → AreClients rows → ⊥
not_clients rows i d low none are =
    let at = at_mapped client_row (λ c. (c.0 < 2 ^ 32) × (length c.1 ≡ 32)) are.clients i d are.fit (subst (λ (r : List Row). i < length r) are.are low) in
    none at.0.0 at.0.1 at.1.0 at.1.1 (ap (λ (r : List Row). get_or r i d) are.are ∙ at.2)

-- ---- faults of the parts

pub fails_on : (taken other failed more : Type 0) → (other → taken) → (failed → more) → (e : OpenFault) → FailsOn taken failed e → FailsOn other more e
fails_on taken other failed more f g why.OutOfMemory h = tt
fails_on taken other failed more f g why.CannotOpen h = h
fails_on taken other failed more f g why.InUse h = h
fails_on taken other failed more f g why.NoDatabase h = h
fails_on taken other failed more f g why.Damaged h = g h
fails_on taken other failed more f g why.Disk h = g h
fails_on taken other failed more f g why.Full h = g h
fails_on taken other failed more f g why.Foreign h = h
fails_on taken other failed more f g (why.Format n) h = h
fails_on taken other failed more f g (why.Window n) h = h
fails_on taken other failed more f g why.BadRow h = λ t. h (f t)

-- an error of what keeps something, as a reading tells it
pub told_keep : (taken A X : Type 0) (e : StoreError) → KeepFails A X e → FailsOn taken (A ⊎ X) (fault_of e)
told_keep taken A X store.OutOfMemory h = tt
told_keep taken A X store.Io h = inl h
told_keep taken A X store.Corrupt h = inl h
told_keep taken A X store.Full h = inl h
told_keep taken A X store.Broken h = inl h
told_keep taken A X store.Unstorable h = inr h

-- and where it was mapped
pub mapped_told : {T : Type 0} (taken A X : Type 0) (r : Result T StoreError) (Q : T → Type 0) (fault : OpenFault) → ((x : T) → Q x → ⊥) → IfErr r (KeepFails A X) → MatchResult r Q (λ e. fault ≡ fault_of e)
    → FailsOn taken (A ⊎ X) fault
mapped_told taken A X (Ok x) Q fault never f h = absurd (never x h)
mapped_told taken A X (Err e) Q fault never f h = subst (FailsOn taken (A ⊎ X)) (sym h) (told_keep taken A X e f)

pub read_refused : (trees : Trees) (seconds : ℕ) (failed : Type 0) (e : OpenFault) → FailsOn ⊤ failed e → RefusesRows trees seconds failed e
read_refused trees seconds failed why.OutOfMemory h = tt
read_refused trees seconds failed why.CannotOpen h = absurd h
read_refused trees seconds failed why.InUse h = absurd h
read_refused trees seconds failed why.NoDatabase h = absurd h
read_refused trees seconds failed why.Damaged h = h
read_refused trees seconds failed why.Disk h = h
read_refused trees seconds failed why.Full h = h
read_refused trees seconds failed why.Foreign h = absurd h
read_refused trees seconds failed (why.Format n) h = absurd h
read_refused trees seconds failed (why.Window n) h = absurd h
read_refused trees seconds failed why.BadRow h = absurd (h tt)

pub meta_refused : (trees : Trees) (seconds : ℕ) (failed : Type 0) (rows : List Row) → rows ≡ trees meta_tree → (e : OpenFault) → RefusesMeta rows seconds e → RefusesRows trees seconds failed e
meta_refused trees seconds failed rows same why.OutOfMemory h = absurd h
meta_refused trees seconds failed rows same why.CannotOpen h = absurd h
meta_refused trees seconds failed rows same why.InUse h = absurd h
meta_refused trees seconds failed rows same why.NoDatabase h = absurd h
meta_refused trees seconds failed rows same why.Damaged h = absurd h
meta_refused trees seconds failed rows same why.Disk h = absurd h
meta_refused trees seconds failed rows same why.Full h = absurd h
meta_refused trees seconds failed rows same why.Foreign h = λ format other is. h format other (same ∙ is)
meta_refused trees seconds failed rows same (why.Format n) h = (h.0, (h.1.0, sym same ∙ h.1.1))
meta_refused trees seconds failed rows same (why.Window n) h = (h.0, sym same ∙ h.1)
meta_refused trees seconds failed rows same why.BadRow h = absurd h

pub rows_refused : (trees : Trees) (seconds : ℕ) (taken failed more : Type 0) → trees meta_tree ≡ meta_rows 1 seconds → (AreTaken trees → taken) → (failed → more)
    → (e : OpenFault) → FailsOn taken failed e → RefusesRows trees seconds more e
rows_refused trees seconds taken failed more meta f g why.OutOfMemory h = tt
rows_refused trees seconds taken failed more meta f g why.CannotOpen h = absurd h
rows_refused trees seconds taken failed more meta f g why.InUse h = absurd h
rows_refused trees seconds taken failed more meta f g why.NoDatabase h = absurd h
rows_refused trees seconds taken failed more meta f g why.Damaged h = g h
rows_refused trees seconds taken failed more meta f g why.Disk h = g h
rows_refused trees seconds taken failed more meta f g why.Full h = g h
rows_refused trees seconds taken failed more meta f g why.Foreign h = absurd h
rows_refused trees seconds taken failed more meta f g (why.Format n) h = absurd h
rows_refused trees seconds taken failed more meta f g (why.Window n) h = absurd h
rows_refused trees seconds taken failed more meta f g why.BadRow h = (meta, λ both. h (f both))

-- a client whose number is past those of the table
pub number_past : (trees : Trees) (accs : List (ℕ × AccountRow)) (gs : List GrantRow) (next : ℕ) → trees account_tree ≡ map account_row accs → trees grant_tree ≡ map grant_row gs → IsNextOf (trees client_tree) next
    → are_below next accs gs ≡ false → AreTaken trees → ⊥
number_past trees accs gs next one two of down taken = let e = sym down ∙ taken.known accs gs next one two of in cc

-- ---- the whole

not_empty : (trees : Trees) → AreListed trees → trees catalog_tree ≡ [] → ⊥
not_empty trees listed none = let e = sym listed ∙ ap (map (take 5)) none in cc

ours_refused : (v : View) (seconds : ℕ) (failed more : Type 0) → HasOurTables v → (failed → more) → (e : OpenFault) → RefusesRows v.committed seconds failed e → Refuses v seconds more e
ours_refused v seconds failed more ours g why.OutOfMemory h = tt
ours_refused v seconds failed more ours g why.CannotOpen h = absurd h
ours_refused v seconds failed more ours g why.InUse h = absurd h
ours_refused v seconds failed more ours g why.NoDatabase h = absurd h
ours_refused v seconds failed more ours g why.Damaged h = inr (g h)
ours_refused v seconds failed more ours g why.Disk h = g h
ours_refused v seconds failed more ours g why.Full h = g h
ours_refused v seconds failed more ours g why.Foreign h = (not_empty v.committed ours.listed, λ both. h both.1.0 both.1.1.0 both.1.1.1)
ours_refused v seconds failed more ours g (why.Format n) h = (ours, h)
ours_refused v seconds failed more ours g (why.Window n) h = (ours, h)
ours_refused v seconds failed more ours g why.BadRow h = (ours, h)

one_format : (f o s : ℕ) → meta_rows f o ≡ meta_rows 1 s → f ≡ 1
one_format f o s same = cc

one_window : (o s : ℕ) → meta_rows 1 o ≡ meta_rows 1 s → o ≡ s
one_window o s same = cc

below_none : (next : ℕ) (accs : List (ℕ × AccountRow)) (gs : List GrantRow) → [] ≡ map account_row accs → [] ≡ map grant_row gs → IsTrue (are_below next accs gs)
below_none next [] [] one two = refl
below_none next [] (g ∷ gs) one two = absurd cc
below_none next (a ∷ accs) gs one two = absurd cc

made_refused : (v : View) (trees : Trees) (seconds : ℕ) (failed more : Type 0) → AreMade trees seconds → (failed → more) → (e : OpenFault) → RefusesRows trees seconds failed e
    → Refuses v seconds more e
made_refused v trees seconds failed more made g why.OutOfMemory h = tt
made_refused v trees seconds failed more made g why.CannotOpen h = absurd h
made_refused v trees seconds failed more made g why.InUse h = absurd h
made_refused v trees seconds failed more made g why.NoDatabase h = absurd h
made_refused v trees seconds failed more made g why.Damaged h = inr (g h)
made_refused v trees seconds failed more made g why.Disk h = g h
made_refused v trees seconds failed more made g why.Full h = g h
made_refused v trees seconds failed more made g why.Foreign h = absurd (h 1 seconds made.empty.meta)
made_refused v trees seconds failed more made g (why.Format n) h = absurd (h.0 (one_format n h.1.0 seconds (sym h.1.1 ∙ made.empty.meta)))
made_refused v trees seconds failed more made g (why.Window n) h = absurd (h.0 (one_window n seconds (sym h.1 ∙ made.empty.meta)))
made_refused v trees seconds failed more made g why.BadRow h = absurd (h.1 (record {
  accounts = ([], tt, made.empty.accounts);
  grants = ([], tt, made.empty.grants);
  clients = record { clients = []; fit = tt; distinct = tt; rising = tt; are = made.empty.clients };
  known = λ accs gs next one two of. below_none next accs gs (sym made.empty.accounts ∙ one) (sym made.empty.grants ∙ two);
}))

pub refused_at_rest : (old mid : View) (seconds : ℕ) (failed more : Type 0) → IsPrepared old mid seconds → (failed → more) → (e : OpenFault) → RefusesRows mid.trees seconds failed e → Refuses old seconds more e
refused_at_rest old mid seconds failed more (inl found) g e h = ours_refused old seconds failed more found.0 g e (subst (λ (t : Trees). RefusesRows t seconds failed e) found.1 h)
refused_at_rest old mid seconds failed more (inr made) g e h = made_refused old mid.trees seconds failed more made.1 g e h

pub found_or_made : (old mid new : View) (seconds : ℕ) → IsPrepared old mid seconds → new.trees ≡ mid.trees → IsFoundOrMade old.committed new.trees seconds
found_or_made old mid new seconds (inl found) same = inl (same ∙ found.1)
found_or_made old mid new seconds (inr made) same = inr (made.0, subst (λ (t : Trees). AreMade t seconds) (sym same) made.1)

making_failed : (v : View) (seconds : ℕ) (failed more : Type 0) → (failed → more) → (e : OpenFault) → FailsOn ⊤ failed e → Refuses v seconds more e
making_failed v seconds failed more g why.OutOfMemory h = tt
making_failed v seconds failed more g why.CannotOpen h = absurd h
making_failed v seconds failed more g why.InUse h = absurd h
making_failed v seconds failed more g why.NoDatabase h = absurd h
making_failed v seconds failed more g why.Damaged h = inr (g h)
making_failed v seconds failed more g why.Disk h = g h
making_failed v seconds failed more g why.Full h = g h
making_failed v seconds failed more g why.Foreign h = absurd h
making_failed v seconds failed more g (why.Format n) h = absurd h
making_failed v seconds failed more g (why.Window n) h = absurd h
making_failed v seconds failed more g why.BadRow h = absurd (h tt)

abbrev AreAbsent : (ℕ → Shape) → Type 0
AreAbsent s = (s 0 ≡ Absent) × (s 1 ≡ Absent) × (s 2 ≡ Absent) × (s 3 ≡ Absent)

pub making_refused : (old mid : View) (seconds : ℕ) (failed more : Type 0) → IsAtRest old mid → mid.trees catalog_tree ≡ [] → (failed → more) → (e : OpenFault)
    → ((e ≡ why.Damaged) × (HasFreeTrees mid → ⊥)) ⊎ FailsOn ⊤ failed e → Refuses old seconds more e
making_refused old mid seconds failed more rest none g e (inl taken) =
    subst (Refuses old seconds more) (sym taken.0) (inl (ap (λ (t : Trees). t catalog_tree) (sym rest.trees.0) ∙ none, λ free. taken.1 (subst AreAbsent (sym rest.shape.0) free)))
making_refused old mid seconds failed more rest none g e (inr h) = making_failed old seconds failed more g e h

pub others_refused : (old mid : View) (seconds : ℕ) (failed : Type 0) → IsAtRest old mid → (mid.trees catalog_tree ≡ [] → ⊥) → (AreListed mid.trees → ⊥) → Refuses old seconds failed why.Foreign
others_refused old mid seconds failed rest some others =
    ((λ none. some (ap (λ (t : Trees). t catalog_tree) rest.trees.0 ∙ none)), λ ours. others (subst AreListed (sym rest.trees.0) ours.0.listed))

abbrev AreShapes : (ℕ → Shape) → Type 0
AreShapes s = (s 0 ≡ Table) × (s 1 ≡ Table) × (s 2 ≡ Table) × (s 3 ≡ Table)

pub shapeless_refused : (old mid : View) (seconds : ℕ) (failed : Type 0) → IsAtRest old mid → AreListed mid.trees → (HasShapes mid → ⊥) → Refuses old seconds failed why.Foreign
shapeless_refused old mid seconds failed rest listed none =
    ((λ empty. not_empty mid.trees listed (ap (λ (t : Trees). t catalog_tree) rest.trees.0 ∙ empty)), λ ours. none (subst AreShapes (sym rest.shape.0) ours.0.shapes))

pub ours_prepared : (old mid : View) (seconds : ℕ) → IsAtRest old mid → AreListed mid.trees → HasShapes mid → IsPrepared old mid seconds
ours_prepared old mid seconds rest listed shapes = inl (record { listed = subst AreListed rest.trees.0 listed; shapes = subst AreShapes rest.shape.0 shapes }, rest.trees.0)

pub made_prepared : (old mid new : View) (seconds : ℕ) → IsAtRest old mid → mid.trees catalog_tree ≡ [] → AreMade new.trees seconds → IsPrepared old new seconds
made_prepared old mid new seconds rest none made = inr (ap (λ (t : Trees). t catalog_tree) (sym rest.trees.0) ∙ none, made)

-- The log of a wire, call by call.
use Rattle.std.proofs.Common.{◌≡◌, ℕ, ◌+◌, ◌≤◌, List, [], ◌∷◌, ◌++◌, refl, sym, ap, ◌∙◌, subst, append_assoc, Bool, true, false, inl, inr}
use Rattle.std.specs.Prelude.{Option, Some, None, ◌||◌, ◌⊎◌, flat_map}
use Rattle.std.proofs.lemmas.Bool.{eqb-true}
use Rattle.std.proofs.lemmas.Grind.{replicate_next, flat_map-append}
use Rattle.std.proofs.lemmas.List.{append-nil}
use Rattle.outside.specs.declared.mem_wire.WireDial.{WireDial}
use Rattle.outside.specs.Faults.{last_count}
use Rattle.outside.specs.Dials.{Dial, Logged, LacksMissed, LoggedBy, LastBecomes, with_last, fresh_dial, missed_dial, missed_dials, dial_of, dials_to, dials_of, log_of, is_up, sends, takes}

-- no dial more
pub logged_none : (log : Option (List Dial)) → Logged log [] log
logged_none None = refl
logged_none (Some log) = ap Some (sym (append-nil log))

-- some dials, and then some more
pub logged_then : (a b c : Option (List Dial)) (first second : List Dial) → Logged a first b → Logged b second c → Logged a (first ++ second) c
logged_then None b c first second x y = subst (λ (log : Option (List Dial)). Logged log second c) x y
logged_then (Some log) b c first second x y =
    let later : Logged (Some (log ++ first)) second c = subst (λ (o : Option (List Dial)). Logged o second c) x y in
    later ∙ ap Some (append_assoc log first second)

-- nothing is lacking
lacks_none : (dials : List Dial) → LacksMissed dials dials
unfolding LacksMissed
lacks_none [] = refl
lacks_none (d ∷ dials) = inl (dials, refl, lacks_none dials)

lacks_then : (first second a b : List Dial) → LacksMissed first a → LacksMissed second b → LacksMissed (first ++ second) (a ++ b)
unfolding LacksMissed
lacks_then [] second a b x y = subst (λ l. LacksMissed second (l ++ b)) (sym x) y
lacks_then (d ∷ first) second a b (inl x) y = inl (x.0 ++ b, ap (λ l. l ++ b) x.1, lacks_then first second x.0 b x.2 y)
lacks_then (d ∷ first) second a b (inr x) y = inr (x.0, lacks_then first second a b x.1 y)

-- what the log has grown by, whether it lacks some or not
shown_by : (count : ℕ) (before after : Option (List Dial)) (dials : List Dial) → LoggedBy count before dials after
    → (shown : List Dial) × LacksMissed dials shown × Logged before shown after
shown_by count before after dials (inl all) = (dials, lacks_none dials, all)
shown_by count before after dials (inr some) = (some.1, some.2, some.3)

-- The same, where the count of dials that nobody answered may have come to its last value, at which it stays.
pub logged_by_then : (c d : ℕ) (x y z : Option (List Dial)) (first second : List Dial) → (last_count ≤ c → last_count ≤ d) → LoggedBy c x first y → LoggedBy d y second z
    → LoggedBy d x (first ++ second) z
logged_by_then c d x y z first second stays (inl a) (inl b) = inl (logged_then x y z first second a b)
logged_by_then c d x y z first second stays (inl a) (inr b) =
    inr (b.0, first ++ b.1, lacks_then first second first b.1 (lacks_none first) b.2, logged_then x y z first b.1 a b.3)
logged_by_then c d x y z first second stays (inr a) two =
    let b = shown_by d y z second two in
    inr (stays a.0, a.1 ++ b.0, lacks_then first second a.1 b.0 a.2 b.1, logged_then x y z a.1 b.0 a.3 b.2)

-- the last of some dials is changed
pub with_last_changed : {A : Type 0} (change : A → A) (front : List A) (x : A) → with_last change (front ++ x ∷ []) ≡ front ++ change x ∷ []
unfolding with_last
with_last_changed change [] x = refl
with_last_changed change (y ∷ []) x = refl
with_last_changed change (y ∷ z ∷ rest) x = ap (λ l. y ∷ l) (with_last_changed change (z ∷ rest) x)

-- the one dial that was made is changed
pub logged_last : (change : Dial → Dial) (a b c : Option (List Dial)) (d : Dial) → Logged a (d ∷ []) b → LastBecomes change b c → Logged a (change d ∷ []) c
logged_last change None b c d x y = subst (λ (log : Option (List Dial)). LastBecomes change log c) x y
logged_last change (Some log) b c d x y =
    let later : LastBecomes change (Some (log ++ d ∷ [])) c = subst (λ (o : Option (List Dial)). LastBecomes change o c) x y in
    later ∙ ap Some (with_last_changed change log d)

with_last_twice : (first second : Dial → Dial) (xs : List Dial) → with_last second (with_last first xs) ≡ with_last (λ d. second (first d)) xs
unfolding with_last
with_last_twice first second [] = refl
with_last_twice first second (x ∷ []) = refl
with_last_twice first second (x ∷ y ∷ []) = refl
with_last_twice first second (x ∷ y ∷ z ∷ rest) = ap (λ l. x ∷ l) (with_last_twice first second (y ∷ z ∷ rest))

-- a change, and then another one
pub last_then : (first second : Dial → Dial) (a b c : Option (List Dial)) → LastBecomes first a b → LastBecomes second b c → LastBecomes (λ d. second (first d)) a c
last_then first second None b c x y = subst (λ (log : Option (List Dial)). LastBecomes second log c) x y
last_then first second (Some log) b c x y =
    let later : LastBecomes second (Some (with_last first log)) c = subst (λ (o : Option (List Dial)). LastBecomes second o c) x y in
    later ∙ ap Some (with_last_twice first second log)

-- bytes sent, and then more
pub sends_then : (first second : List ℕ) (d : Dial) → sends second (sends first d) ≡ sends (first ++ second) d
sends_then first second d = ap (λ l. sends_to l d) (append_assoc d.sent first second)
  where
    sends_to : List ℕ → Dial → Dial
    sends_to l d = record { answered = d.answered; sent = l; taken = d.taken; ended = d.ended; failed = d.failed }

or_false : (a b : Bool) → ((a || false) || b) ≡ (a || b)
or_false true b = refl
or_false false b = refl

-- bytes taken, and then more
pub takes_then : (first second : List ℕ) (ended : Bool) (d : Dial) → takes second ended (takes first false d) ≡ takes (first ++ second) ended d
takes_then first second ended d = λ i. record { answered = d.answered; sent = d.sent; taken = append_assoc d.taken first second i; ended = or_false d.ended ended i; failed = d.failed }

-- ---- a wire in memory

-- where it is up, no dial went unanswered behind the latest
pub none_missed : (dialled : Bool) (latest : Option WireDial) (missed : ℕ) → is_up dialled latest missed ≡ true → missed ≡ 0
none_missed dialled None missed up = absurd (cc up)
none_missed true (Some latest) missed up = eqb-true missed 0 up
none_missed false (Some latest) missed up = absurd (cc up)

-- where it is up, it stays so with another latest dial
pub stays_up : (dialled : Bool) (latest : Option WireDial) (missed : ℕ) (e : WireDial) → is_up dialled latest missed ≡ true → is_up dialled (Some e) missed ≡ true
stays_up dialled None missed e up = absurd (cc up)
stays_up dialled (Some latest) missed e up = up

-- where none was missed, the latest dial is the last
latest_last : (past : List WireDial) (d : WireDial) → dials_of past (Some d) 0 ≡ (flat_map dials_to past ++ missed_dials d.missed) ++ dial_of d ∷ []
latest_last past d =
    ap (λ l. flat_map dials_to past ++ l) (append-nil (dials_to d)) ∙ sym (append_assoc (flat_map dials_to past) (missed_dials d.missed) (dial_of d ∷ []))

-- it changes its latest dial
pub latest_changed : (change : Dial → Dial) (past : List WireDial) (latest : Option WireDial) (missed : ℕ) (d e : WireDial) → latest ≡ Some d → missed ≡ 0
    → e.missed ≡ d.missed → dial_of e ≡ change (dial_of d) → log_of past (Some e) missed ≡ Some (with_last change (dials_of past latest missed))
latest_changed change past latest missed d e is none same changed =
    let front : List Dial = flat_map dials_to past ++ missed_dials d.missed in
    let now : dials_of past (Some e) 0 ≡ front ++ change (dial_of d) ∷ [] =
    latest_last past e ∙ ap (λ n. (flat_map dials_to past ++ missed_dials n) ++ dial_of e ∷ []) same ∙ ap (λ x. front ++ x ∷ []) changed in
    let before : with_last change (dials_of past (Some d) 0) ≡ front ++ change (dial_of d) ∷ [] =
    ap (with_last change) (latest_last past d) ∙ with_last_changed change front (dial_of d) in
    subst (λ n. log_of past (Some e) n ≡ Some (with_last change (dials_of past latest n))) (sym none)
    (ap Some (now ∙ sym before ∙ ap (λ o. with_last change (dials_of past o 0)) (sym is)))

-- a dial was answered
pub one_answered : (past : List WireDial) (latest : Option WireDial) (d : WireDial) → latest ≡ None → dial_of d ≡ fresh_dial
    → dials_of past (Some d) 0 ≡ dials_of past latest d.missed ++ fresh_dial ∷ []
one_answered past latest d none fresh =
    latest_last past d ∙ ap (λ x. (flat_map dials_to past ++ missed_dials d.missed) ++ x ∷ []) fresh ∙ ap (λ o. dials_of past o d.missed ++ fresh_dial ∷ []) (sym none)

-- nobody answered one more
pub one_missed : (past : List WireDial) (latest : Option WireDial) (missed : ℕ) → dials_of past latest (missed + 1) ≡ dials_of past latest missed ++ missed_dial ∷ []
one_missed past None missed =
    ap (λ l. flat_map dials_to past ++ l) (replicate_next missed missed_dial) ∙ sym (append_assoc (flat_map dials_to past) (missed_dials missed) (missed_dial ∷ []))
one_missed past (Some d) missed =
    ap (λ l. flat_map dials_to past ++ (dials_to d ++ l)) (replicate_next missed missed_dial)
    ∙ ap (λ l. flat_map dials_to past ++ l) (sym (append_assoc (dials_to d) (missed_dials missed) (missed_dial ∷ [])))
    ∙ sym (append_assoc (flat_map dials_to past) (dials_to d ++ missed_dials missed) (missed_dial ∷ []))

-- and the log tells so
pub missed_logged : (past : List WireDial) (latest : Option WireDial) (before missed faults : ℕ) (log : List Dial) → dials_of past latest before ≡ log
    → (missed ≡ before + 1) ⊎ ((missed ≡ before) × (last_count ≤ faults)) → LoggedBy faults (Some log) (missed_dial ∷ []) (log_of past latest missed)
unfolding LacksMissed
missed_logged past latest before missed faults log same counted = elim counted [
  | inl more ↦ inl (ap Some (ap (dials_of past latest) more ∙ one_missed past latest before ∙ ap (λ l. l ++ missed_dial ∷ []) same))
  | inr over ↦ inr (over.1, [], inr (refl, refl), ap Some (ap (dials_of past latest) over.0 ∙ same ∙ sym (append-nil log)))
]

-- the latest dial is put behind those before it
pub put_behind : (past : List WireDial) (d : WireDial) (missed : ℕ) → dials_of (past ++ d ∷ []) None missed ≡ dials_of past (Some d) missed
put_behind past d missed =
    ap (λ l. l ++ missed_dials missed) (flat_map-append dials_to past (d ∷ []) ∙ ap (λ l. flat_map dials_to past ++ l) (append-nil (dials_to d)))
    ∙ append_assoc (flat_map dials_to past) (dials_to d) (missed_dials missed)

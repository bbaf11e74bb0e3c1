-- The pieces of the body, one after another.
use Rattle.std.proofs.Common.{ℕ, ◌≡◌, Bool, true, false, List, [], ◌∷◌, ◌++◌, Option, None, Some, refl, ap, ◌∙◌, subst, append_assoc}
use Rattle.std.specs.Prelude.{codes, if◌then◌else◌}
use Rattle.std.proofs.lemmas.Bool.{or_parts}
use Rattle.serde_json.specs.Data.{Data, string, object, Members, no_members, member}
use Rattle.serde_json.specs.Written.{has_float, members_have_float, compact_text, members_text, comma_if}
use Rattle.gql_base.specs.ways.Reading.{Identifier}
use Rattle.response_model.specs.ResponseText.{key_text}
use Rattle.typename_rewrite.specs.ForwardedBodies.{members_where, body_with, name_text, member_text}

-- What was written, and what is left, are the whole, where nothing holds a float.
abbrev pub MembersLeft : (whole left : Members) (start now : List ℕ) (later : Bool) → Type 0
MembersLeft whole left start now later = members_have_float whole ≡ false → (members_have_float left ≡ false) × (now ++ members_text later left ≡ start ++ compact_text (object whole))

pub members_begun : (whole : Members) (start now : List ℕ) → now ≡ start ++ codes "{" → MembersLeft whole whole start now false
members_begun whole start now e floatless = (floatless, ap (λ l. l ++ members_text false whole) e ∙ append_assoc start (codes "{") (members_text false whole))

pub member_left_out : (keeps : List ℕ → Bool) (whole : Members) (key : List ℕ) (d : Data) (left : Members) (start now : List ℕ) (later : Bool) → keeps key ≡ false
    → MembersLeft whole (members_where keeps (member key d left)) start now later → MembersLeft whole (members_where keeps left) start now later
member_left_out keeps whole key d left start now later out m = subst (λ ms. MembersLeft whole ms start now later) same m
  where
    same : members_where keeps (member key d left) ≡ members_where keeps left
    same = rw (out) refl

regrouped : (now comma key text rest : List ℕ) → (now ++ (comma ++ ((key ++ (58 ∷ [])) ++ text))) ++ rest ≡ now ++ (comma ++ (key ++ (58 ∷ (text ++ rest))))
regrouped now comma key text rest = append_assoc now (comma ++ ((key ++ (58 ∷ [])) ++ text)) rest ∙ ap (λ l. now ++ l) (append_assoc comma ((key ++ (58 ∷ [])) ++ text) rest
    ∙ ap (λ l. comma ++ l) (append_assoc (key ++ (58 ∷ [])) text rest ∙ append_assoc key (58 ∷ []) (text ++ rest)))

pub member_written : (keeps : List ℕ → Bool) (whole : Members) (key : List ℕ) (d : Data) (left : Members) (start now new : List ℕ) (later : Bool) → keeps key ≡ true
    → (has_float d ≡ false → new ≡ now ++ member_text later key d)
    → MembersLeft whole (members_where keeps (member key d left)) start now later → MembersLeft whole (members_where keeps left) start new true
member_written keeps whole key d left start now new later stays grown m floatless =
    let rest = members_where keeps left in
    let same : members_where keeps (member key d left) ≡ member key d rest = rw (stays) refl in
    let before = subst (λ ms. MembersLeft whole ms start now later) same m floatless in
    let parts = or_parts (has_float d) (members_have_float rest) before.0 in
    (parts.1, ap (λ l. l ++ members_text true rest) (grown parts.0) ∙ (regrouped now (comma_if later) (compact_text (string key)) (compact_text d) (members_text true rest) ∙ before.1))

pub members_ended : (whole : Members) (start now new : List ℕ) (later : Bool) → new ≡ now ++ codes "}" → MembersLeft whole no_members start now later → members_have_float whole ≡ false → new ≡ start ++ compact_text (object whole)
members_ended whole start now new later e m floatless = e ∙ (m floatless).1

-- ---- the body

abbrev key : List ℕ → List ℕ
key name = compact_text (string name)

-- the document and the variables
ended_text : (document variables : List ℕ) → key_text (codes "query") ++ (document ++ (codes "," ++ (key_text (codes "variables") ++ (variables ++ codes "}")))) ≡ key (codes "query") ++ (58 ∷ (document ++ (44 ∷ (key (codes "variables") ++ (58 ∷ (variables ++ (125 ∷ [])))))))
ended_text document variables = append_assoc (key (codes "query")) (codes ":") (document ++ (codes "," ++ (key_text (codes "variables") ++ (variables ++ codes "}"))))
    ∙ ap (λ l. key (codes "query") ++ (58 ∷ (document ++ (44 ∷ l)))) (append_assoc (key (codes "variables")) (codes ":") (variables ++ codes "}"))

abbrev pub pieces_with : Option Identifier → List ℕ → List ℕ → List ℕ
pieces_with name document variables = codes "{" ++ (name_text name ++ (key_text (codes "query") ++ (compact_text (string document) ++ (codes "," ++ (key_text (codes "variables") ++ (variables ++ codes "}"))))))

body_text : (name : Option Identifier) (document : List ℕ) (variables : Members) → pieces_with name document (compact_text (object variables)) ≡ compact_text (body_with name document variables)
body_text None document variables = ap (λ l. codes "{" ++ l) (ended_text (compact_text (string document)) (compact_text (object variables)))
body_text (Some name) document variables =
    let operation = key (codes "operationName") in
    let text = compact_text (string name.0) in
    let rest = key_text (codes "query") ++ (compact_text (string document) ++ (codes "," ++ (key_text (codes "variables") ++ (compact_text (object variables) ++ codes "}")))) in
    ap (λ l. codes "{" ++ l) (append_assoc ((operation ++ codes ":") ++ text) (codes ",") rest ∙ (append_assoc (operation ++ codes ":") text (codes "," ++ rest) ∙ (append_assoc operation (codes ":") (text ++ (codes "," ++ rest))
    ∙ ap (λ l. operation ++ (58 ∷ (text ++ (44 ∷ l)))) (ended_text (compact_text (string document)) (compact_text (object variables))))))

eight_pieces : (a b c d e f g h : List ℕ) → ((((((a ++ b) ++ c) ++ d) ++ e) ++ f) ++ g) ++ h ≡ a ++ (b ++ (c ++ (d ++ (e ++ (f ++ (g ++ h))))))
eight_pieces a b c d e f g h = append_assoc (((((a ++ b) ++ c) ++ d) ++ e) ++ f) g h ∙ (append_assoc ((((a ++ b) ++ c) ++ d) ++ e) f (g ++ h) ∙ (append_assoc (((a ++ b) ++ c) ++ d) e (f ++ (g ++ h))
    ∙ (append_assoc ((a ++ b) ++ c) d (e ++ (f ++ (g ++ h))) ∙ (append_assoc (a ++ b) c (d ++ (e ++ (f ++ (g ++ h)))) ∙ append_assoc a b (c ++ (d ++ (e ++ (f ++ (g ++ h)))))))))

pub body_pieces : (name : Option Identifier) (document variables : List ℕ) (a b c d e f g h : List ℕ) → a ≡ codes "{" → b ≡ a ++ name_text name → c ≡ b ++ key_text (codes "query") → d ≡ c ++ compact_text (string document) → e ≡ d ++ codes ","
    → f ≡ e ++ key_text (codes "variables") → g ≡ f ++ variables → h ≡ g ++ codes "}" → h ≡ pieces_with name document variables
body_pieces name document variables a b c d e f g h one two three four five six seven eight =
    eight ∙ (ap (λ l. l ++ codes "}") (seven ∙ ap (λ l. l ++ variables) (six ∙ ap (λ l. l ++ key_text (codes "variables")) (five ∙ ap (λ l. l ++ codes ",") (four ∙ ap (λ l. l ++ compact_text (string document)) (three ∙ ap (λ l. l ++ key_text (codes "query")) (two ∙ ap (λ l. l ++ name_text name) one))))))
    ∙ eight_pieces (codes "{") (name_text name) (key_text (codes "query")) (compact_text (string document)) (codes ",") (key_text (codes "variables")) variables (codes "}"))

pub body_put : (name : Option Identifier) (document : List ℕ) (variables : Members) (a b c d e f g h : List ℕ) → a ≡ codes "{" → b ≡ a ++ name_text name → c ≡ b ++ key_text (codes "query") → d ≡ c ++ compact_text (string document) → e ≡ d ++ codes ","
    → f ≡ e ++ key_text (codes "variables") → g ≡ f ++ compact_text (object variables) → h ≡ g ++ codes "}" → h ≡ compact_text (body_with name document variables)
body_put name document variables a b c d e f g h one two three four five six seven eight =
    body_pieces name document (compact_text (object variables)) a b c d e f g h one two three four five six seven eight ∙ body_text name document variables

-- ---- the names of variables

pub members_alike : (f g : List ℕ → Bool) (ms : Members) → ((name : List ℕ) → f name ≡ g name) → members_where f ms ≡ members_where g ms
members_alike f g no_members same = refl
members_alike f g (member name d ms) same = ap (λ b. if b then member name d (members_where f ms) else members_where f ms) (same name) ∙ ap (λ l. if g name then member name d l else l) (members_alike f g ms same)

pub variables_floatless : (name : Option Identifier) (document : List ℕ) (variables : Members) → has_float (body_with name document variables) ≡ false → has_float (object variables) ≡ false
variables_floatless None document variables e = (or_parts (members_have_float variables) false e).0
variables_floatless (Some name) document variables e = (or_parts (members_have_float variables) false e).0

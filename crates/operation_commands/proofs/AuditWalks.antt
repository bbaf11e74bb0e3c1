-- What an audit has found so far, and what is left.
use Rattle.std.proofs.Common.{◌≡◌, ◌∙◌, ℕ, ◌+◌, ◌<◌, ◌≤◌, suc, List, [], ◌∷◌, ◌++◌, length, map, drop, get_or, Vec, refl, sym, ap, subst, arith, drop-cons}
use Rattle.std.specs.List.{AllZip}
use Rattle.std.specs.declared.alloc.Global.{Global}
use Rattle.std.proofs.lemmas.List.{append_assoc, append-nil, drop_all, length-append, get_or-map}
use Rattle.document_reader.specs.declared.trees.Document.{Document}
use Rattle.document_reader.specs.declared.trees.Definition.{Definition}
use Rattle.command_words.specs.declared.command.AskedAudit.{AskedAudit}
use Rattle.operation_commands.specs.declared.asked.AskedTexts.{AskedTexts}
use Rattle.operation_commands.specs.declared.findings.Finding.{Finding}
use Rattle.operation_commands.specs.Audit.{operation_names, names_in, IsFinding, FindEach, IsDocumentBy, FindsOperations, AreFoundIn, AreFound, Adds}

abbrev pub bytes_of : Vec ℕ Global → List ℕ
bytes_of v = v.items

-- Findings were added for which, with whatever is found for what is left, the whole holds.
abbrev pub GoesOn : (List Finding → Type 0) → (List Finding → Type 0) → List Finding → List Finding → Type 0
GoesOn left whole before now = (more : List Finding) × (now ≡ before ++ more) × ((rest : List Finding) → left rest → whole (more ++ rest))

pub begun : (whole : List Finding → Type 0) (before : List Finding) → GoesOn whole whole before before
begun whole before = ([], sym (append-nil before), λ rest is. is)

pub gone_on : (left next step whole : List Finding → Type 0) (before now after : List Finding) → ((first rest : List Finding) → step first → next rest → left (first ++ rest))
    → GoesOn left whole before now → Adds step now after → GoesOn next whole before after
gone_on left next step whole before now after joins goes adds = (
  goes.0 ++ adds.0,
  adds.1 ∙ (ap (λ found. found ++ adds.0) goes.1 ∙ append_assoc before goes.0 adds.0),
  λ rest is. subst whole (sym (append_assoc goes.0 adds.0 rest)) (goes.2 (adds.0 ++ rest) (joins adds.0 rest adds.2 is)),
)

pub ended : (left whole : List Finding → Type 0) (before now : List Finding) → left [] → GoesOn left whole before now → Adds whole before now
ended left whole before now none goes = (goes.0, goes.1, subst whole (append-nil goes.0) (goes.2 [] none))

-- ---- operations

zipped : {A B : Type 0} (R : A → B → Type 0) (xs xs2 : List A) (ys ys2 : List B) → AllZip R xs ys → AllZip R xs2 ys2 → AllZip R (xs ++ xs2) (ys ++ ys2)
zipped R [] xs2 [] ys2 first second = second
zipped R [] xs2 (y ∷ ys) ys2 first second = absurd first
zipped R (x ∷ xs) xs2 [] ys2 first second = absurd first
zipped R (x ∷ xs) xs2 (y ∷ ys) ys2 first second = (first.0, zipped R xs xs2 ys ys2 first.1 second)

none_zipped : {A B : Type 0} (R : A → B → Type 0) (xs : List A) (ys : List B) → AllZip R xs ys → ys ≡ [] → xs ≡ []
none_zipped R [] ys zips none = refl
none_zipped R (x ∷ xs) [] zips none = absurd zips
none_zipped R (x ∷ xs) (y ∷ ys) zips none = cc none

some_zipped : {A B : Type 0} (R : A → B → Type 0) (xs : List A) (ys : List B) → AllZip R xs ys → xs ≡ [] → ys ≡ []
some_zipped R [] [] zips none = refl
some_zipped R [] (y ∷ ys) zips none = absurd zips
some_zipped R (x ∷ xs) ys zips none = cc none

module _ (audit : AskedAudit) (texts : AskedTexts) (name : List ℕ) (definitions : List Definition) where
  -- what is found in the definitions from this place on
  abbrev pub FindFrom : ℕ → List Finding → Type 0
  FindFrom at = FindEach audit texts name (names_in (drop at definitions))

  pub next_found : (at : ℕ) (definition : Definition) → at < length definitions → definition ≡ get_or definitions at definition
      → (first rest : List Finding) → FindEach audit texts name (operation_names definition) first → FindFrom (at + 1) rest → FindFrom at (first ++ rest)
  next_found at definition within is first rest found more =
      let next : at + 1 ≡ suc at = omega arith in
      let front : drop at definitions ≡ definition ∷ drop (suc at) definitions = drop-cons definitions at definition within ∙ ap (λ d. d ∷ drop (suc at) definitions) (sym is) in
      subst (λ ds. FindEach audit texts name (names_in ds) (first ++ rest)) (sym front)
      (zipped (IsFinding audit texts.schema name texts.document) (operation_names definition) (names_in (drop (suc at) definitions)) first rest found
      (subst (λ k. FindEach audit texts name (names_in (drop k definitions)) rest) next more))

  pub none_left : (at : ℕ) → length definitions ≤ at → FindFrom at []
  none_left at past = subst (λ ds. FindEach audit texts name (names_in ds) []) (sym (drop_all at definitions past)) tt

-- ---- a document

module _ (audit : AskedAudit) (texts : AskedTexts) (name : List ℕ) (d : Document) (of : IsDocumentBy audit texts.schema texts.document d) where
  -- something was found
  pub some_found : (before after : List Finding) → length before < length after → Adds (FindEach audit texts name (names_in d.definitions.items)) before after
      → Adds (FindsOperations audit texts.schema name texts.document) before after
  some_found before after more adds = (
    adds.0,
    adds.1,
    (
      d,
      of,
      (λ none.
          let empty : adds.0 ≡ [] = some_zipped (IsFinding audit texts.schema name texts.document) (names_in d.definitions.items) adds.0 adds.2 none in
          let same : length after ≡ length before = ap length (adds.1 ∙ (ap (λ m. before ++ m) empty ∙ append-nil before)) in omega (arith, more, same)),
      adds.2,
    ),
  )

  -- nothing was, so there are no operations, and nothing was added
  pub none_found : (before after : List Finding) → length after ≤ length before → Adds (FindEach audit texts name (names_in d.definitions.items)) before after
      → (names_in d.definitions.items ≡ []) × (after ≡ before)
  none_found before after few adds =
      let sum : length after ≡ length before + length adds.0 = ap length adds.1 ∙ length-append before adds.0 in
      let empty : adds.0 ≡ [] = no_length adds.0 (omega (arith, few, sum)) in
      (none_zipped (IsFinding audit texts.schema name texts.document) (names_in d.definitions.items) adds.0 adds.2 empty, adds.1 ∙ (ap (λ m. before ++ m) empty ∙ append-nil before))
    where
      no_length : (fs : List Finding) → length fs ≡ 0 → fs ≡ []
      no_length [] is = refl
      no_length (f ∷ fs) is = absurd (omega (arith, is))

-- ---- all files

module _ (audit : AskedAudit) (schema : List ℕ) (names : List (List ℕ)) (contents : List (List ℕ)) where
  -- what is found in the files from this place on
  abbrev pub FoundFrom : ℕ → List Finding → Type 0
  FoundFrom at = AreFound audit schema (drop at names) (drop at contents)

  pub next_file : (at : ℕ) (name bytes : List ℕ) → at < length names → at < length contents → name ≡ get_or names at name → bytes ≡ get_or contents at bytes
      → (first rest : List Finding) → AreFoundIn audit schema name bytes first → FoundFrom (at + 1) rest → FoundFrom at (first ++ rest)
  next_file at name bytes within within2 is is2 first rest found more =
      let next : at + 1 ≡ suc at = omega arith in
      let front : drop at names ≡ name ∷ drop (suc at) names = drop-cons names at name within ∙ ap (λ n. n ∷ drop (suc at) names) (sym is) in
      let front2 : drop at contents ≡ bytes ∷ drop (suc at) contents = drop-cons contents at bytes within2 ∙ ap (λ n. n ∷ drop (suc at) contents) (sym is2) in
      let here : AreFound audit schema (name ∷ drop (suc at) names) (bytes ∷ drop (suc at) contents) (first ++ rest) = (first, rest, refl, found, subst (λ k. AreFound audit schema (drop k names) (drop k contents) rest) next more) in
      subst (λ ns. AreFound audit schema ns (drop at contents) (first ++ rest)) (sym front) (subst (λ bs. AreFound audit schema (name ∷ drop (suc at) names) bs (first ++ rest)) (sym front2) here)

  pub no_file_left : (at : ℕ) → length names ≤ at → length contents ≤ at → FoundFrom at []
  no_file_left at past past2 = subst (λ ns. AreFound audit schema ns (drop at contents) []) (sym (drop_all at names past)) (subst (λ bs. AreFound audit schema [] bs []) (sym (drop_all at contents past2)) refl)

  pub next_in_all : (at : ℕ) (own name bytes : List ℕ) (now after : List Finding) → own ≡ schema → at < length names → at < length contents → name ≡ get_or names at name → bytes ≡ get_or contents at bytes
      → GoesOn (FoundFrom at) (AreFound audit schema names contents) [] now → Adds (AreFoundIn audit own name bytes) now after → GoesOn (FoundFrom (at + 1)) (AreFound audit schema names contents) [] after
  next_in_all at own name bytes now after same within within2 is is2 goes adds =
      gone_on (FoundFrom at) (FoundFrom (at + 1)) (AreFoundIn audit schema name bytes) (AreFound audit schema names contents) [] now after (next_file at name bytes within within2 is is2) goes
      (subst (λ s. Adds (AreFoundIn audit s name bytes) now after) same adds)

  pub all_in_all : (at : ℕ) (found : List Finding) → length names ≤ at → length contents ≤ at → GoesOn (FoundFrom at) (AreFound audit schema names contents) [] found → AreFound audit schema names contents found
  all_in_all at found past past2 goes =
      let all = ended (FoundFrom at) (AreFound audit schema names contents) [] found (no_file_left at past past2) goes in subst (AreFound audit schema names contents) (sym all.1) all.2

-- what stands at a place of the bytes of all files
pub bytes_at_place : (files : List (Vec ℕ Global)) (at : ℕ) (file : Vec ℕ Global) (bytes : List ℕ) → at < length files → file ≡ get_or files at file → bytes ≡ bytes_of file → bytes ≡ get_or (map bytes_of files) at bytes
bytes_at_place files at file bytes within is same = same ∙ (ap bytes_of is ∙ sym (get_or-map bytes_of files at file bytes within))
